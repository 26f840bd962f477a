use Rattle.std.proofs.Common.{◌≡◌, ◌≤◌, ◌∙◌, sym, ap, subst, ◌+◌, ◌-◌, true, [], ◌∷◌, ◌++◌, Ok, refl, length, take, drop, rules, arith}
use Rattle.c_tokens.specs.declared.lexical.LexCause.TheVariants as cause
use Rattle.c_tokens.specs.Spelling.{space, marker, token, refused}
use Rattle.c_tokens.specs.Tokens.{gains, shape_of, bad, Keeps}
use Rattle.c_lexer.specs.Meanings.{spelling_by, sort_by}
use Rattle.c_lexer.proofs.Turns.{Read, stands_by, stands_within, read_nothing, read_space, read_marker, read_token, read_refused, refused_within, read_late, read_all, gained_all, keeps_on, keeps_gains, length_gains}
use Rattle.c_lexer.proofs.lexer.lex.Goals as goal

pub loop-at-init : goal.loop-at-init
loop-at-init c = subst (λ ts. Read c.args.dialect c.args.bytes.now c.args.words.now 0 true ts c.args.words.now) (sym c.new-tokens.ensures.items) (read_nothing c.args.dialect c.args.bytes.now c.args.words.now)

pub overflow_add-end : goal.overflow_add-end
overflow_add-end c =
    let w = stands_within c.args.dialect c.args.bytes.now c.loop-at.at c.first_piece-piece.result.length (spelling_by c.first_piece-piece.result.meaning) (stands_by c.args.dialect c.args.bytes.now c.loop-at.at c.first_piece-piece.result (spelling_by c.first_piece-piece.result.meaning) c.loop-at-test.true c.first_piece-piece.ensures refl) in
    search rules

pub bounds-bytes-end : goal.bounds-bytes-end
bounds-bytes-end c =
    let w = stands_within c.args.dialect c.args.bytes.now c.loop-at.at c.first_piece-piece.result.length (spelling_by c.first_piece-piece.result.meaning) (stands_by c.args.dialect c.args.bytes.now c.loop-at.at c.first_piece-piece.result (spelling_by c.first_piece-piece.result.meaning) c.loop-at-test.true c.first_piece-piece.ensures refl) in
    let some = c.first_piece-piece.ensures.some in
    omega arith

pub overflow_add-result : goal.overflow_add-result
overflow_add-result c =
    let near = refused_within c.args.dialect c.args.bytes.now c.loop-at.at c.first_piece-piece.result.length c.in-Refused.offset c.in-Refused.cause (stands_by c.args.dialect c.args.bytes.now c.loop-at.at c.first_piece-piece.result (refused c.in-Refused.offset c.in-Refused.cause) c.loop-at-test.true c.first_piece-piece.ensures (ap spelling_by c.in-Refused.is)) in
    search rules

pub slice_bounds-shape-end : goal.slice_bounds-shape-end
slice_bounds-shape-end c =
    let w = stands_within c.args.dialect c.args.bytes.now c.loop-at.at c.first_piece-piece.result.length (spelling_by c.first_piece-piece.result.meaning) (stands_by c.args.dialect c.args.bytes.now c.loop-at.at c.first_piece-piece.result (spelling_by c.first_piece-piece.result.meaning) c.loop-at-test.true c.first_piece-piece.ensures refl) in
    search rules

pub returns-in_err-push-in-Token-clause-kept : goal.returns-in_err-push-in-Token-clause-kept
returns-in_err-push-in-Token-clause-kept c =
    let text = take (c.loop-at.at + c.first_piece-piece.result.length - c.loop-at.at) (drop c.loop-at.at c.args.bytes.now) in
    keeps_on c.args.words.now c.loop-at.words c.shape.new.words c.loop-at.invariant.kept
    (subst (Keeps c.loop-at.words) (sym c.in_ok-shape-in-Token.ensures.table) (keeps_gains c.loop-at.words text (token (sort_by c.in-Token.sort))))

pub returns-in-Refused-clause-bad : goal.returns-in-Refused-clause-bad
returns-in-Refused-clause-bad c at x e names =
    let place : c.loop-at.at + c.in-Refused.offset ≡ at = cc in
    let why : c.in-Refused.cause ≡ x = cc in
    read_refused c.args.dialect c.args.bytes.now c.args.words.now c.loop-at.at c.first_piece-piece.result.length c.in-Refused.offset c.in-Refused.cause c.loop-at.first c.loop-at.tokens.items c.loop-at.words c.loop-at.invariant
    (stands_by c.args.dialect c.args.bytes.now c.loop-at.at c.first_piece-piece.result (refused c.in-Refused.offset c.in-Refused.cause) c.loop-at-test.true c.first_piece-piece.ensures (ap spelling_by c.in-Refused.is)) names
    ∙ ap (λ a. bad a c.in-Refused.cause) place ∙ ap (bad at) why

pub returns-then-not-first-clause-bad : goal.returns-then-not-first-clause-bad
returns-then-not-first-clause-bad c at x e names =
    let place : c.loop-at.at ≡ at = cc in
    let why : cause.Directive ≡ x = cc in
    read_late c.args.dialect c.args.bytes.now c.args.words.now c.loop-at.at c.first_piece-piece.result.length c.loop-at.first c.loop-at.tokens.items c.loop-at.words c.loop-at.invariant
    (stands_by c.args.dialect c.args.bytes.now c.loop-at.at c.first_piece-piece.result marker c.loop-at-test.true c.first_piece-piece.ensures (ap spelling_by c.in-Marker.is)) c.if-not-first.true names
    ∙ ap (λ a. bad a cause.Directive) place ∙ ap (bad at) why

pub loop-at-smaller-in-Space : goal.loop-at-smaller-in-Space
loop-at-smaller-in-Space c = let some = c.first_piece-piece.ensures.some in omega arith

pub loop-at-preserved-in-Space : goal.loop-at-preserved-in-Space
loop-at-preserved-in-Space c =
    read_space c.args.dialect c.args.bytes.now c.args.words.now c.loop-at.at c.first_piece-piece.result.length c.loop-at.first c.stays_first-next_first.result c.loop-at.tokens.items c.loop-at.words c.loop-at.invariant
    (stands_by c.args.dialect c.args.bytes.now c.loop-at.at c.first_piece-piece.result space c.loop-at-test.true c.first_piece-piece.ensures (ap spelling_by c.in-Space.is)) c.stays_first-next_first.ensures

pub loop-at-smaller-else-not-first : goal.loop-at-smaller-else-not-first
loop-at-smaller-else-not-first c = let some = c.first_piece-piece.ensures.some in omega arith

pub loop-at-preserved-else-not-first : goal.loop-at-preserved-else-not-first
loop-at-preserved-else-not-first c =
    read_marker c.args.dialect c.args.bytes.now c.args.words.now c.loop-at.at c.first_piece-piece.result.length c.loop-at.first c.stays_first-next_first.result c.loop-at.tokens.items c.loop-at.words c.loop-at.invariant
    (stands_by c.args.dialect c.args.bytes.now c.loop-at.at c.first_piece-piece.result marker c.loop-at-test.true c.first_piece-piece.ensures (ap spelling_by c.in-Marker.is)) c.if-not-first.false c.stays_first-next_first.ensures

pub loop-at-smaller : goal.loop-at-smaller
loop-at-smaller c = let some = c.first_piece-piece.ensures.some in omega arith

pub loop-at-preserved : goal.loop-at-preserved
loop-at-preserved c =
    let at = c.loop-at.at in
    let n = c.first_piece-piece.result.length in
    let sort = sort_by c.in-Token.sort in
    let bytes = c.args.bytes.now in
    let len : at + n - at ≡ n = omega arith in
    subst (λ ts. Read c.args.dialect bytes c.args.words.now (at + n) c.stays_first-next_first.result ts c.shape.new.words)
    (sym (c.in_ok-push-in-Token.ensures.items ∙ ap (λ t. c.loop-at.tokens.items ++ t ∷ []) c.token.ensures))
    (read_token c.args.dialect bytes c.args.words.now at n c.loop-at.first c.stays_first-next_first.result c.loop-at.tokens.items c.loop-at.words c.shape.new.words sort c.in_ok-shape-in-Token.shape c.loop-at.invariant
    (stands_by c.args.dialect c.args.bytes.now c.loop-at.at c.first_piece-piece.result (token sort) c.loop-at-test.true c.first_piece-piece.ensures (ap spelling_by c.in-Token.is)) c.stays_first-next_first.ensures
    (c.in_ok-shape-in-Token.ensures.table ∙ ap (λ k. gains c.loop-at.words (take k (drop at bytes)) (token sort)) len)
    (c.in_ok-shape-in-Token.ensures.shape ∙ ap (λ k. shape_of c.shape.new.words (take k (drop at bytes)) sort) len))

pub returns-clause-tokens : goal.returns-clause-tokens
returns-clause-tokens c =
    read_all c.args.dialect c.args.bytes.now c.args.words.now c.loop-at.at c.loop-at.first c.loop-at.tokens.items c.loop-at.words c.loop-at.invariant c.loop-at-test.false
    ∙ ap (λ ts. Ok ts) (sym (c.in_ok-push.ensures.items ∙ ap (λ t. c.loop-at.tokens.items ++ t ∷ []) c.token-2.ensures))

pub returns-clause-gained : goal.returns-clause-gained
returns-clause-gained c = gained_all c.args.dialect c.args.bytes.now c.args.words.now c.loop-at.at c.loop-at.first c.loop-at.tokens.items c.loop-at.words c.loop-at.invariant c.loop-at-test.false

pub returns-in_err-push-in-Token-clause-few : goal.returns-in_err-push-in-Token-clause-few
returns-in_err-push-in-Token-clause-few c =
    let text = take (c.loop-at.at + c.first_piece-piece.result.length - c.loop-at.at) (drop c.loop-at.at c.args.bytes.now) in
    let few : length c.loop-at.words ≤ length c.args.words.now + c.loop-at.at = c.loop-at.invariant.few in
    omega (arith, c.loop-at-test.true, ap length c.in_ok-shape-in-Token.ensures.table, length_gains c.loop-at.words text (token (sort_by c.in-Token.sort)))
