-- Declarators can be completed where a function's is due.
use Rattle.std.proofs.Common.{◌≡◌, refl, ap, ℕ, ◌<◌, true, false, List, [], ◌∷◌, None, nat_eq, arith}
use Rattle.c_tokens.specs.declared.token.Punct.{Punct}
use Rattle.c_tokens.specs.declared.token.Punct.TheVariants as punct
use Rattle.c_tokens.specs.declared.token.Shape.{Shape}
use Rattle.c_tokens.specs.declared.token.Shape.TheVariants as shape
use Rattle.c_forms.specs.declared.pieces.Event.{Event}
use Rattle.c_forms.specs.declared.pieces.Event.TheVariants as event
use Rattle.c_forms.specs.declared.pieces.Repetition.TheVariants.{Many, Optional}
use Rattle.c_forms.specs.declared.pieces.Sort.TheVariants as s
use Rattle.c_forms.specs.Measures.{pieces}
use Rattle.c_forms.specs.Sets.{goes_on}
use Rattle.c_reader.specs.States.{State, Kept, seen, class, happens, has_parameters}
use Rattle.c_reader.specs.Readers.{Reader, Found, Of, Give, Refuse, Bind, Fits, Call, Ask, Change, below, only, token}
use Rattle.c_reader.proofs.Leaves.{Leaves, anyhow, leaves_anyhow, leaving_pick}
use Rattle.c_reader.proofs.Phrases.{Tokens, Finishes, Begun, Way, anything, opens_anything, fin_give, fin_bind, fin_map, fin_last, fin_token, fin_call, begun_bind, begun_pick}
use Rattle.c_reader.proofs.Live.{Live, live_bind, live_choose, live_map}
use Rattle.c_syntax.specs.Allowed.{may_happen}
use Rattle.c_syntax.specs.Reading.{Usual, Listed, Gathered, nothing, deeper, called, with_first, list_from, pieces_in, completed}
use Rattle.c_syntax.specs.Grammar.{body, whole, is_sign, standing, in_place}
use Rattle.c_alive.proofs.Tame.{firm_called}
use Rattle.c_alive.proofs.Kept.{Still, stays_gathered}
use Rattle.c_alive.proofs.Phrased.{none_of, past, phrase, a_word, opens_if}
use Rattle.c_alive.proofs.Gathers.{group_past, fin_gathered, live_gathered}
use Rattle.c_alive.proofs.Nodes.{live_completed, begun_completed}
use Rattle.c_alive.proofs.Operands.{kept_called}
use Rattle.c_alive.proofs.Called.{calls, Due, is_other, when_due, live_called}
use Rattle.c_lively.proofs.Endings.{calling, fin_specifier}
use Rattle.c_lively.proofs.DueRows.{event_then, sign_of, pointer, after_tree, qualifiers, sealing, pointed, after_star, size, bracket, array_end, sized_array, after_bracket, closing, parameters_end, listed, entering, after_paren, Function, seal_due, may_seal, resume_function, close_function, aside_still}
use Rattle.c_lively.proofs.DueEnds.{fin_event, close, parens, fin_parameters_end, fin_called_due}
use Rattle.c_lively.proofs.DueLeaves.{leaves_called}

module _ (deep : ℕ) where
  pub live_event : {A : Type 0} (e : Event) (r : Reader A) (z : State) (y : Shape) (Q : Tokens) (J : A → State → Type 0) → (may_happen e z ≡ true → Live body calls deep (happens e z) y Q J r) → Live body calls deep z y Q J (event_then e r)
  live_event e r z y Q J R = λ place. live_choose body calls deep z y Q J (may_happen e z) (Change e r) Refuse R (λ _. tt)

module _ (a : List Kept) where
  abbrev Made : {A : Type 0} → A → State → Type 0
  Made x t = Function a t

  abbrev Dues : {A : Type 0} → A → State → Type 0
  Dues x t = Due a t

  abbrev beyond : Tokens
  beyond = none_of (goes_on s.Declarator 1)

  pub live_declared : (deep : ℕ) → 0 < deep → (z : State) (y : Shape) → Due a z → Live body calls deep z y beyond Made (Call (Of s.Declarator 1))
  live_declared deep room z y k = ((refl, (refl, λ e. (refl, k.1.1))), (room, ((λ x q. q), ((λ x t m. let r = when_due (Of s.Declarator 1) a z x t k m in (r.0, r.1 refl)), tt))))

  -- ---- qualifiers

  abbrev between : Tokens
  between = none_of (group_past (Many None 0) s.Qualifier 0)

  live_qualifier : (deep : ℕ) → 0 < deep → (z : State) (y : Shape) → Due a z → Live body calls deep z y (none_of (past s.Qualifier 0)) Dues (called s.Qualifier 0)
  live_qualifier deep room z y k = live_map body calls deep z y Dues (none_of (past s.Qualifier 0)) (none_of (past s.Qualifier 0)) Dues (Call (Of s.Qualifier 0)) deeper (λ x q. q) (λ x t k. k)
      ((refl, (refl, λ e. (refl, k.1.1))), (room, ((λ x q. q), ((λ x t m. (when_due (Of s.Qualifier 0) a z x t k m).0), tt))))

  fin_qualifier : (z : State) → Due a z → Finishes body z (none_of (past s.Qualifier 0)) Dues (called s.Qualifier 0) (phrase s.Qualifier)
  unfolding in_place
  fin_qualifier z k = fin_map body z Dues (none_of (past s.Qualifier 0)) Dues (Call (Of s.Qualifier 0)) deeper (phrase s.Qualifier) (fin_call body z (none_of (past s.Qualifier 0)) Dues (Of s.Qualifier 0) (phrase s.Qualifier) (fin_specifier (in_place 8) s.Qualifier refl (none_of (past s.Qualifier 0)) (Due a) z k)) (λ x t k. k)

  live_qualifiers : (deep : ℕ) → 0 < deep → (z : State) (y : Shape) → Due a z → Live body calls deep z y between Dues qualifiers
  live_qualifiers deep room z y k = live_gathered (Due a) s.Qualifier 0 (called s.Qualifier 0) (firm_called s.Qualifier 0) fin_qualifier calls deep (live_qualifier deep room) (λ z y k. leaves_called a z y k s.Qualifier 0 refl) (Many None 0) Usual refl refl z y k

  fin_qualifiers : (z : State) → Due a z → Finishes body z between Dues qualifiers []
  fin_qualifiers z k = fin_gathered (Due a) s.Qualifier 0 (called s.Qualifier 0) (firm_called s.Qualifier 0) (Many None 0) Usual (λ e. fin_qualifier) refl refl refl z k

  leaves_qualifiers : (z : State) (y : Shape) → Due a z → Leaves body z y qualifiers Dues
  leaves_qualifiers z y k d = stays_gathered (below body d) d Due (Many None 0) s.Qualifier (called s.Qualifier 0) Usual (λ a z y k. leaves_called a z y k s.Qualifier 0 refl d) a z y k

  -- ---- pointers

  abbrev name_parens : List Shape
  name_parens = a_word ∷ parens

  fin_sealing : (x : Found) (t : State) → Function a t → Finishes body t beyond Made (after_tree sealing x) []
  fin_sealing x t k = fin_map body t Made beyond Made sealing (λ g. with_first x g) [] (fin_event event.Seal (Give nothing) t beyond Made [] (may_seal a t k) (fin_give body (happens event.Seal t) beyond Made nothing (seal_due a t k.0 (may_seal a t k)))) (λ g t k. k)

  fin_pointed : (z : State) → Due a z → Finishes body z beyond Made pointed name_parens
  fin_pointed z k = fin_last body z Made beyond beyond Made (called s.Declarator 1) (after_tree sealing) name_parens (fin_map body z Made beyond Made (Call (Of s.Declarator 1)) deeper name_parens (fin_called_due a z k) (λ x t k. k)) (λ x q. q) (λ x t k. fin_sealing x t k)

  live_pointed : (deep : ℕ) → 0 < deep → (z : State) (y : Shape) → Due a z → Live body calls deep z y beyond Made pointed
  live_pointed deep room z y k = live_bind body calls deep z y anyhow Made beyond beyond Made (called s.Declarator 1) (after_tree sealing) (live_map body calls deep z y Made beyond beyond Made (Call (Of s.Declarator 1)) deeper (λ x q. q) (λ x t k. k) (live_declared deep room z y k))
      (leaves_anyhow body z y (called s.Declarator 1)) (record { tokens = []; opens = λ x q. q; finishes = λ x t k. fin_sealing x t k })
      (λ x t w _. live_map body calls deep t w Made beyond beyond Made sealing (λ g. with_first x g) (λ x q. q) (λ g t k. k) (live_event deep event.Seal (Give nothing) t w beyond Made (λ e. tt)))

  abbrev then_pointed : ℕ × Gathered → Reader Listed
  then_pointed g = Bind pointed (λ h. Give (with_first (list_from g.0 g.1) h))

  fin_then_pointed : (g : ℕ × Gathered) (t : State) → Due a t → Finishes body t beyond Made (then_pointed g) name_parens
  fin_then_pointed g t k = fin_map body t Made beyond Made pointed (λ h. with_first (list_from g.0 g.1) h) name_parens (fin_pointed t k) (λ h t k. k)

  fin_after_star : (z : State) → Due a z → Finishes body z beyond Made after_star name_parens
  fin_after_star z k = fin_bind body z Dues between beyond Made qualifiers then_pointed [] name_parens (fin_qualifiers z k) (opens_if (group_past (Many None 0) s.Qualifier 0) name_parens [] refl) (λ g t k. fin_then_pointed g t k)

  live_after_star : (deep : ℕ) → 0 < deep → (z : State) (y : Shape) → Due a z → Live body calls deep z y beyond Made after_star
  live_after_star deep room z y k = live_bind body calls deep z y Dues Dues between beyond Made qualifiers then_pointed (live_qualifiers deep room z y k) (leaves_qualifiers z y k)
      (record { tokens = name_parens; opens = opens_if (group_past (Many None 0) s.Qualifier 0) name_parens [] refl; finishes = λ g t k. fin_then_pointed g t k })
      (λ g t w k. live_map body calls deep t w Made beyond beyond Made pointed (λ h. with_first (list_from g.0 g.1) h) (λ x q. q) (λ h t k. k) (live_pointed deep room t w k))

  -- a token, and what follows it
  module _ (P : State → Type 0) (p : Punct) (r : Reader Listed) (u : List Shape) (F : (t : State) → P t → Finishes body t beyond Made r u) where
    abbrev led : Reader Listed
    led = Bind (token (sign_of p)) (λ _. r)

    led_way : Way body (λ (x : Unit {0}) t. P t) anything beyond Made (λ (_ : Unit {0}). r)
    led_way = record { tokens = u; opens = opens_anything u beyond; finishes = λ _ t k. F t k }

    pub begun_led : (z : State) (y : Shape) → nat_eq (class z y) (sign_of p) ≡ true → P z → Begun body z y beyond Made led
    begun_led z y e k = begun_bind body z y (λ _ t. P t) anything beyond Made (token (sign_of p)) (λ _. r) (begun_pick body z y anything (λ _ t. P t) (λ x. only (nat_eq x.class (sign_of p))) tt (ap only e) k) led_way

    pub live_led : (deep : ℕ) (z : State) (y : Shape) → P z → ((t : State) (x : Shape) → P t → Live body calls deep t x beyond Made r) → Live body calls deep z y beyond Made led
    live_led deep z y k L = live_bind body calls deep z y (λ _ t. P t) (λ _ t. P t) anything beyond Made (token (sign_of p)) (λ _. r) ((λ _ _. k), tt) (λ d. leaving_pick (below body d) d z y (λ x. only (nat_eq x.class (sign_of p))) (λ _ t. P t) (λ _ _. k)) led_way (λ _ t x k. L t x k)

  pub live_star : (deep n : ℕ) (z : State) (y : Shape) → is_sign punct.Star (seen z y) ≡ true → Due a z → Live body calls deep z y beyond Made (standing 1 (whole (in_place n) s.Declarator pointer))
  unfolding whole pieces_in
  live_star deep n z y e k = live_map body calls deep z y Made beyond beyond Made (Ask (λ i. Fits 0 (completed called s.Declarator pointer i.place nothing (pieces pointer)))) (λ x. record { found = x; level = 1 }) (λ x q. q) (λ x t k. k)
      (λ place. (
        begun_completed (Function a) beyond called s.Declarator pointer place nothing (pieces pointer) z y (begun_led (Due a) punct.Star after_star name_parens fin_after_star z y e k),
        live_completed (Function a) beyond called s.Declarator pointer place nothing (pieces pointer) calls 1 z y (live_led (Due a) punct.Star after_star name_parens fin_after_star 1 z y k (λ t x k. live_after_star 1 (omega arith) t x k)),
      ))

  -- ---- arrays and functions

  fin_bracket : (t : State) → Function a t → Finishes body t beyond Made bracket (shape.Punct punct.RightBracket ∷ [])
  fin_bracket t k = fin_map body t Made beyond Made (token (sign_of punct.RightBracket)) (λ _. nothing) (shape.Punct punct.RightBracket ∷ []) (fin_token body t beyond Made (shape.Punct punct.RightBracket) (sign_of punct.RightBracket) refl k) (λ _ t k. k)

  module _ (k : Kept) (due : k.is_function_due ≡ true) where
    abbrev Pending : {A : Type 0} → A → State → Type 0
    Pending x t = Still (k ∷ a) t

    module _ (parts : has_parameters k.near ≡ true) where
      fin_array_end : (t : State) → Still (k ∷ a) t → Finishes body t beyond Made array_end (shape.Punct punct.RightBracket ∷ [])
      fin_array_end t m = let f : Function a (happens event.Resume t) = resume_function k a t due parts m in
          fin_event event.Resume (event_then event.Seal bracket) t beyond Made (shape.Punct punct.RightBracket ∷ []) refl (fin_event event.Seal bracket (happens event.Resume t) beyond Made (shape.Punct punct.RightBracket ∷ []) (may_seal a (happens event.Resume t) f)
          (fin_bracket (happens event.Seal (happens event.Resume t)) (seal_due a (happens event.Resume t) f.0 (may_seal a (happens event.Resume t) f))))

      live_array_end : (deep : ℕ) (t : State) (w : Shape) → Still (k ∷ a) t → Live body calls deep t w beyond Made array_end
      live_array_end deep t w m = let f : Function a (happens event.Resume t) = resume_function k a t due parts m in
          live_event deep event.Resume (event_then event.Seal bracket) t w beyond Made (λ _. live_event deep event.Seal bracket (happens event.Resume t) w beyond Made
          (λ e. live_map body calls deep (happens event.Seal (happens event.Resume t)) w Made beyond beyond Made (token (sign_of punct.RightBracket)) (λ _. nothing) (λ x q. q) (λ _ t k. k) ((λ _ _. seal_due a (happens event.Resume t) f.0 e), tt)))

      abbrev in_brackets : Tokens
      in_brackets = none_of (group_past Optional s.Exp 3)

      abbrev then_end : ℕ × Gathered → Reader Listed
      then_end g = Bind array_end (λ h. Give (with_first (list_from g.0 g.1) h))

      fin_then_end : (g : ℕ × Gathered) (t : State) → Still (k ∷ a) t → Finishes body t beyond Made (then_end g) (shape.Punct punct.RightBracket ∷ [])
      fin_then_end g t m = fin_map body t Made beyond Made array_end (λ h. with_first (list_from g.0 g.1) h) (shape.Punct punct.RightBracket ∷ []) (fin_array_end t m) (λ h t k. k)

      fin_sized : (t : State) → Still (k ∷ a) t → Finishes body t beyond Made sized_array (shape.Punct punct.RightBracket ∷ [])
      fin_sized t m = fin_bind body t Pending in_brackets beyond Made size then_end [] (shape.Punct punct.RightBracket ∷ [])
          (fin_gathered (Still (k ∷ a)) s.Exp 3 (called s.Exp 3) (firm_called s.Exp 3) Optional Usual (λ e. calling.ends s.Exp 3 refl (k ∷ a)) refl refl refl t m) (opens_if (group_past Optional s.Exp 3) (shape.Punct punct.RightBracket ∷ []) [] refl) (λ g t m. fin_then_end g t m)

      live_sized : (deep : ℕ) → 0 < deep → (t : State) (w : Shape) → Still (k ∷ a) t → Live body calls deep t w beyond Made sized_array
      live_sized deep room t w m = live_bind body calls deep t w Pending Pending in_brackets beyond Made size then_end
          (live_gathered (Still (k ∷ a)) s.Exp 3 (called s.Exp 3) (firm_called s.Exp 3) (calling.ends s.Exp 3 refl (k ∷ a)) calls deep (λ z y m. live_called deep room s.Exp 3 refl refl (k ∷ a) z y m) (λ z y m. kept_called s.Exp 3 refl (k ∷ a) z y m) Optional Usual refl refl t w m)
          (λ d. stays_gathered (below body d) d Still Optional s.Exp (called s.Exp 3) Usual (λ a z y k. kept_called s.Exp 3 refl a z y k d) (k ∷ a) t w m)
          (record { tokens = shape.Punct punct.RightBracket ∷ []; opens = opens_if (group_past Optional s.Exp 3) (shape.Punct punct.RightBracket ∷ []) [] refl; finishes = λ g t m. fin_then_end g t m })
          (λ g t w m. live_map body calls deep t w Made beyond beyond Made array_end (λ h. with_first (list_from g.0 g.1) h) (λ x q. q) (λ h t k. k) (live_array_end deep t w m))

    module _ (other : is_other k.near ≡ false) where
      live_parameters_end : (deep : ℕ) (t : State) (w : Shape) → Still (k ∷ a) t → Live body calls deep t w beyond Made parameters_end
      live_parameters_end deep t w m = live_bind body calls deep t w anyhow Pending anything beyond Made (token (sign_of punct.RightParen)) (λ _. closing) ((λ _ _. m), tt) (leaves_anyhow body t w (token (sign_of punct.RightParen)))
          (record { tokens = []; opens = opens_anything [] beyond; finishes = λ _ t m. fin_event event.Close (Give nothing) t beyond Made [] refl (fin_give body (happens event.Close t) beyond Made nothing (close_function k a t due other m)) })
          (λ _ t x _. live_event deep event.Close (Give nothing) t x beyond Made (λ _. tt))

      live_listed : (deep : ℕ) → 0 < deep → (t : State) (w : Shape) → Still (k ∷ a) t → Live body calls deep t w beyond Made listed
      live_listed deep room t w m = live_bind body calls deep t w Pending Pending (none_of (past s.Params 0)) beyond Made (called s.Params 0) (after_tree parameters_end) (live_called deep room s.Params 0 refl refl (k ∷ a) t w m) (kept_called s.Params 0 refl (k ∷ a) t w m)
          (record { tokens = close; opens = opens_if (past s.Params 0) close [] refl; finishes = λ x t m. fin_map body t Made beyond Made parameters_end (λ g. with_first x g) close (fin_parameters_end a beyond k due other t m) (λ g t k. k) })
          (λ x t w m. live_map body calls deep t w Made beyond beyond Made parameters_end (λ g. with_first x g) (λ x q. q) (λ g t k. k) (live_parameters_end deep t w m))

  pub fin_after_bracket : (z : State) → Function a z → Finishes body z beyond Made after_bracket (shape.Punct punct.RightBracket ∷ [])
  fin_after_bracket z k = fin_event event.Aside sized_array z beyond Made (shape.Punct punct.RightBracket ∷ []) refl (fin_sized z.kept k.0.1.0 k.1 (happens event.Aside z) (aside_still a z k.0.0))

  pub live_after_bracket : (deep : ℕ) → 0 < deep → (z : State) (y : Shape) → Function a z → Live body calls deep z y beyond Made after_bracket
  live_after_bracket deep room z y k = live_event deep event.Aside sized_array z y beyond Made (λ _. live_sized z.kept k.0.1.0 k.1 deep room (happens event.Aside z) y (aside_still a z k.0.0))

  pub live_after_paren : (deep : ℕ) → 0 < deep → (z : State) (y : Shape) → Due a z → Live body calls deep z y beyond Made after_paren
  live_after_paren deep room z y k = live_event deep event.Aside entering z y beyond Made (λ _. live_event deep event.Enter listed (happens event.Aside z) y beyond Made (λ _. live_listed z.kept k.1.0 k.1.1 deep room (happens event.Enter (happens event.Aside z)) y (aside_still a z k.0)))
