use Rattle.std.proofs.Common.{◌≡◌, None}
use Rattle.io_edge.specs.MemoryShelf.{file_named, IsFirstNamed}
use Rattle.io_edge.proofs.FilesLemmas.{put_replaces, put_adds}
use Rattle.io_edge.proofs.files.put_file.Goals as goal

pub returns-in-Some-clause-ok : goal.returns-in-Some-clause-ok
returns-in-Some-clause-ok c =
    let found : IsFirstNamed c.args.files.now.items c.args.name.now c.in-Some.place =
    rw c.deref.ensures.value at c.in-Some.ensures.found
    in rw (c.from_vec-bytes.ensures, c.in_ok-from_slice.ensures.items)
    (put_replaces c.args.files.now.items c.in-Some.place c.index_mut.result.now c.args.name.now c.args.bytes.now
    found c.index_mut.ensures.value)

pub returns-in_ok-push-in-None-clause-ok : goal.returns-in_ok-push-in-None-clause-ok
returns-in_ok-push-in-None-clause-ok c =
    let absent : file_named c.args.files.now.items c.args.name.now ≡ None =
    rw c.deref.ensures.value at c.in-None.ensures.absent
    in rw (
      c.in_ok-push-in-None.ensures.items,
      c.from_vec-bytes.ensures,
      c.in_ok-from_slice.ensures.items,
      c.from_vec-name.ensures,
      c.in_ok-from_slice-in-None.ensures.items,
      c.as_bytes.ensures.value,
    )
    (put_adds c.args.files.now.items c.args.name.now c.args.bytes.now absent)
