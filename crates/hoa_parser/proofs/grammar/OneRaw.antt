-- A list of tokens spells at most one automaton, and nothing goes on behind one.
use Rattle.std.proofs.Common.{◌≡◌, ℕ, Bool, true, false, List, [], ◌∷◌, ◌++◌, map, flat_map, refl, sym, ◌∙◌, ap}
use Rattle.std.specs.Prelude.{codes}
use Rattle.std.proofs.lemmas.List.{append_assoc, append-nil}
use Rattle.hoa_lexer.specs.declared.token.Token.{Token}
use Rattle.hoa_lexer.specs.declared.token.Token.TheVariants.{HeaderName, Identifier, Body, End}
use Rattle.hoa_parser.specs.Phrases.{AutomatonPhrase, automaton_meaning, automaton_tokens, body_tokens, item_meaning, item_tokens, state_meaning, state_tokens}
use Rattle.hoa_parser.specs.GrammarLaws.{OneRaw, WholeGoesNoFurther}
use Rattle.hoa_parser.proofs.grammar.ClearPhrases.{IsClear, either, flat_clear}
use Rattle.hoa_parser.proofs.grammar.HavePhrases.{have_phrases}
use Rattle.hoa_parser.proofs.grammar.SameItems.{is_header, is_inner, item_begins, same_item}
use Rattle.hoa_parser.proofs.grammar.SameStates.{is_in_state, same_state}
use Rattle.hoa_parser.proofs.grammar.Stops.{IsSame, first_token, later_tokens}

header_no : (p : Token → Bool) → ((name : List ℕ) → p (HeaderName name) ≡ false) → (t : Token) → is_header t ≡ true → p t ≡ false
header_no p header (HeaderName name) e = header name
header_no p header _ e = cc

same_items : IsClear (flat_map item_tokens) (map item_meaning) (either is_header is_inner)
same_items = flat_clear item_tokens item_meaning is_inner is_header same_item item_begins (header_no is_inner (λ n. refl))

same_states : IsClear (flat_map state_tokens) (map state_meaning) (either is_header is_in_state)
same_states = flat_clear state_tokens state_meaning is_in_state is_header same_state (λ s. refl) (header_no is_in_state (λ n. refl))

behind_items : (a : AutomatonPhrase) (c : List Token) → automaton_tokens a ++ c
    ≡ HeaderName (codes "HOA") ∷ Identifier a.version ∷ (flat_map item_tokens a.items ++ (Body ∷ (flat_map state_tokens a.states ++ (End ∷ c))))
behind_items a c =
    ap (λ w. HeaderName (codes "HOA") ∷ Identifier a.version ∷ w)
    (append_assoc (flat_map item_tokens a.items) (Body ∷ body_tokens a.states) c
    ∙ ap (λ w. flat_map item_tokens a.items ++ (Body ∷ w)) (append_assoc (flat_map state_tokens a.states) (End ∷ []) c))

pub same_automaton : (a b : AutomatonPhrase) (c d : List Token) → automaton_tokens a ++ c ≡ automaton_tokens b ++ d → IsSame (automaton_meaning a) (automaton_meaning b) c d
same_automaton a b c d e =
    let f = later_tokens _ _ _ _ (sym (behind_items a c) ∙ e ∙ behind_items b d) in
    let version = first_token (Identifier a.version) (Identifier b.version) _ _ f in
    let items = same_items a.items b.items _ _ (later_tokens (Identifier a.version) (Identifier b.version) _ _ f) refl refl in
    let states = same_states a.states b.states _ _ (later_tokens Body Body _ _ items.rest) refl refl in
    let x = items.value in
    let y = states.value in
    record { value = cc; rest = later_tokens End End c d states.rest }

pub one_raw : OneRaw
one_raw m n ts v w s t =
    let p = have_phrases m ts v s in
    let q = have_phrases n ts w t in
    let same = same_automaton p.phrase q.phrase [] [] (append-nil (automaton_tokens p.phrase) ∙ sym p.spelled ∙ q.spelled ∙ sym (append-nil (automaton_tokens q.phrase))) in
    p.means ∙ same.value ∙ sym q.means

nothing_more : (more others : List Token) → more ++ others ≡ [] → more ≡ []
nothing_more [] others e = refl
nothing_more (t ∷ ts) others e = cc

pub whole_goes_no_further : WholeGoesNoFurther
whole_goes_no_further m n ts more w s v =
    let p = have_phrases m ts w s in
    let q = have_phrases n ((ts ++ more) ++ v.more) v.whole v.spelled in
    let same = same_automaton p.phrase q.phrase (more ++ v.more) []
    (ap (λ z. z ++ (more ++ v.more)) (sym p.spelled) ∙ sym (append_assoc ts more v.more) ∙ q.spelled ∙ sym (append-nil (automaton_tokens q.phrase))) in
    nothing_more more v.more same.rest
