use Rattle.std.proofs.Common.{◌≡◌, true, false}
use Rattle.std.specs.Str.{bytes_eq}
use Rattle.io_edge.proofs.FilesLemmas.{other_more, named_here}
use Rattle.io_edge.proofs.files.find_file.Goals as goal

pub loop-place-preserved : goal.loop-place-preserved
loop-place-preserved c =
    let differs : bytes_eq c.index-files-place.result.name c.args.name.now ≡ false =
    rw (← c.items.ensures, ← c.as_bytes.ensures.value, ← c.eq.ensures) c.if-eq.false
    in other_more c.args.files.now c.loop-place.place c.args.name.now c.index-files-place.result
    c.loop-place-test.true c.index-files-place.is differs c.loop-place.invariant

pub returns-then-eq-clause-bytes : goal.returns-then-eq-clause-bytes
returns-then-eq-clause-bytes c =
    let same : bytes_eq c.index-files-place.result.name c.args.name.now ≡ true =
    rw (← c.items.ensures, ← c.as_bytes.ensures.value, ← c.eq.ensures) c.if-eq.true
    in named_here c.args.files.now c.loop-place.place c.args.name.now c.index-files-place.result
    c.loop-place-test.true c.index-files-place.is same c.loop-place.invariant
