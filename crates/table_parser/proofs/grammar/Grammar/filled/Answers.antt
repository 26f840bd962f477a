use Rattle.std.proofs.Common.{rules, arith, sym, ap, refl, ◌∙◌}
use Rattle.std.proofs.lemmas.Grind.{common_steps}
use Rattle.c_tokens.specs.declared.token.Key.TheVariants as key
use Rattle.c_tokens.specs.declared.class.Class.TheVariants as class
use Rattle.c_forms.specs.declared.pieces.Piece.TheVariants.{Token}
use Rattle.c_syntax.specs.Reading as reading
use Rattle.table_parser.specs.Filled.{filling_of, going, parts_after}
use Rattle.table_parser.specs.Nests.{part_of}
use Rattle.table_parser.proofs.Fillings.{filling_begin, filling_on, filling_broken, filling_over}
use Rattle.table_parser.proofs.Sounds.{sound_at}
use Rattle.table_parser.proofs.grammar.Grammar.filled.Goals as goal

pub pieces-init : goal.pieces-init
pieces-init g c = record {
  rest = filling_begin c.args.self.now.depth (part_of c.args.owner.is_deeper c.args.self.now.places) c.args.owner.own c.args.owner.form c.args.pieces.now (going reading.Usual c.args.done.now) c.args.cursor.now.input
      ∙ ap (λ g. parts_after c.args.self.now.depth (part_of c.args.owner.is_deeper c.args.self.now.places) c.args.owner.own c.args.owner.form c.args.pieces.now (filling_of g c.args.done.now) c.args.cursor.now.input) (sym c.going-filling.ensures);
  kept = refl;
  low = c.requires.low;
}

pub with_piece-requires-clause-sound : goal.with_piece-requires-clause-sound
with_piece-requires-clause-sound g c = sound_at c.args.owner.form c.args.pieces.now c.pieces.piece-index (Token (class.Key key.Auto)) c.pieces-test.true c.requires.sound

pub returns-in_err-filling-clause-reads : goal.returns-in_err-filling-clause-reads
returns-in_err-filling-clause-reads g c =
    let e = filling_broken c.args.self.now.depth (part_of c.args.owner.is_deeper c.args.self.now.places) c.args.owner.own c.args.owner.form c.args.pieces.now c.pieces.piece-index (Token (class.Key key.Auto)) (filling_of c.pieces.filling c.pieces.done) c.pieces.cursor.input in
    let less = c.pieces-test.true in
    first_of (search rules, grind (arith, common_steps, e, less))

pub pieces-preserved : goal.pieces-preserved
pieces-preserved g c = record {
  rest = c.pieces.invariant.rest
      ∙ filling_on c.args.self.now.depth (part_of c.args.owner.is_deeper c.args.self.now.places) c.args.owner.own c.args.owner.form c.args.pieces.now c.pieces.piece-index (Token (class.Key key.Auto)) (filling_of c.pieces.filling c.pieces.done) (filling_of c.in_ok-filling.filling c.with_piece.new.done) c.pieces.cursor.input c.with_piece.new.cursor.input c.pieces-test.true c.in_ok-filling.ensures.reads;
  kept = c.in_ok-filling.ensures.kept ∙ c.pieces.invariant.kept;
  low = c.in_ok-filling.ensures.low;
}

pub returns-clause-reads : goal.returns-clause-reads
returns-clause-reads g c = c.pieces.invariant.rest
    ∙ filling_over c.args.self.now.depth (part_of c.args.owner.is_deeper c.args.self.now.places) c.args.owner.own c.args.owner.form c.args.pieces.now c.pieces.piece-index (filling_of c.pieces.filling c.pieces.done) c.pieces.cursor.input (omega (arith, c.pieces-test.false))
