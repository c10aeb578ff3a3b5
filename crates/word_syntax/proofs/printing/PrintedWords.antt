-- A printed word is a word of the grammar, and its pattern is matched by what was printed.
use Rattle.std.proofs.Common.{◌≡◌, ◌∙◌, ◌∷◌, ◌++◌, ◌+◌, ◌-◌, ◌*◌, ◌%◌, ◌<◌, ◌↔◌, Bool, List, Option, Some, [], ap, arith, cond, false, inl, inr}
use Rattle.std.proofs.Common.{length, length-append, map, not, refl, slice_get, subst, suc, sym, true, zero, ℕ}
use Rattle.std.proofs.Math.Nat.{add-mul-mod_self_left}
use Rattle.std.proofs.lemmas.Bool.{and_from, and_parts, cases_Bool, cases_lt, cond-false, cond-true, not_from_false}
use Rattle.std.proofs.lemmas.List.{append_assoc, append-nil, map-append}
use Rattle.std.specs.FinSet.{contains}
use Rattle.std.specs.List.{AllByRecursion, list_all}
use Rattle.std.specs.Option.{option_map_or}
use Rattle.aut_base.specs.declared.limit.TheConstants.{MOST_DEPTH}
use Rattle.aut_base.proofs.lists.AllByRecursion.{AllByRecursion-append}
use Rattle.aut_base.proofs.canonical.CanonicalTruth.{truth-all_of}
use Rattle.aut_base.proofs.lists.Copies.{length-copies}
use Rattle.aut_base.proofs.lists.Lists.{slice_get-append_right}
use Rattle.aut_base.proofs.order.Ordered.{Pairs, all_kept, pairs_from}
use Rattle.aut_base.proofs.words.Spelled.{stem_letter, word_letter}
use Rattle.aut_base.proofs.words.Texts.{differ_texts}
use Rattle.aut_base.specs.CanonicalLabel.{all_of}
use Rattle.aut_base.specs.Label as label
use Rattle.aut_base.specs.Chains.{IsSum}
use Rattle.aut_base.specs.Label.{LabelTree, holds_at, trees, truth}
use Rattle.aut_base.specs.Text.{same_text}
use Rattle.aut_base.specs.Word.{NameSet, SpellsSame, copies}
use Rattle.word_syntax.proofs.grammar.NamePlaces.{each_once}
use Rattle.word_syntax.proofs.lassos.Cyclic.{at_cycle, copies_at, mod_of_multiple}
use Rattle.word_syntax.proofs.grammar.NamePlaces.{Differ, Has, contains_has, has_contains, mutual_push, names_of-append, others}
use Rattle.word_syntax.proofs.printing.PrintedTokens.{cycle_tokens, letter_tokens, literal_tokens, literals_tokens, printed_tokens, stem_tokens, word_tokens}
use Rattle.word_syntax.specs.Grammar.{AreLetters, IsWord, WordPattern, letter, token_names, no_letter, letters_over}
use Rattle.word_syntax.proofs.grammar.FromLeft.{AreConjuncts, IsConjunction, IsOperand, always, either, joined, negated, no_conjunction, no_operand, operand, proposition, letter_sum}
use Rattle.word_syntax.specs.Matching.{AllMeet, Matches}
use Rattle.word_syntax.specs.ReadBack.{AgreesOn, AgreesUnrolled, AllAgree, PrintedIsReadBack}
use Rattle.word_syntax.specs.declared.token.Token.{Token}
use Rattle.word_syntax.specs.declared.token.Token.TheVariants as token

-- the formulas of a literal and of a letter
abbrev literal_tree : NameSet → ℕ → List ℕ → LabelTree
literal_tree x i n = cond (contains x n) (label.Prop i) (label.Not (label.Prop i))

abbrev literal_trees : NameSet → ℕ → List (List ℕ) → List LabelTree
literal_trees x i [] = []
literal_trees x i (n ∷ ns) = literal_tree x i n ∷ literal_trees x (i + 1) ns

abbrev letter_tree : List (List ℕ) → NameSet → LabelTree
letter_tree names x = all_of (literal_trees x 0 names)

literal_operand : (names : List (List ℕ)) (x : NameSet) (i : ℕ) (n : List ℕ) → slice_get names i ≡ Some n → IsOperand names MOST_DEPTH (literal_tokens x n) (literal_tree x i n)
literal_operand names x i n stands = elim (cases_Bool (contains x n)) [
  | inl e ↦ subst (λ (w : List Token). IsOperand names MOST_DEPTH w (literal_tree x i n)) (sym (cond-true _ _ _ e))
      (subst (λ (t : LabelTree). IsOperand names MOST_DEPTH (token.Name n ∷ []) t) (sym (cond-true _ _ _ e)) (proposition n i stands))
  | inr e ↦ subst (λ (w : List Token). IsOperand names MOST_DEPTH w (literal_tree x i n)) (sym (cond-false _ _ _ e))
      (subst (λ (t : LabelTree). IsOperand names MOST_DEPTH (token.Not ∷ token.Name n ∷ []) t) (sym (cond-false _ _ _ e)) (negated {room = 511} (proposition n i stands)))
]

conjunction_from : (names : List (List ℕ)) (x : NameSet) (pre : List (List ℕ)) (i : ℕ) (n : List ℕ) (ns : List (List ℕ)) (v : List Token) (ts : List LabelTree) → names ≡ pre ++ (n ∷ ns)
    → i ≡ length pre → AreConjuncts names MOST_DEPTH v ts → IsConjunction names MOST_DEPTH (v ++ literals_tokens x (n ∷ ns)) (all_of (ts ++ literal_trees x i (n ∷ ns)))
conjunction_from names x pre i n [] v ts is at before =
    let z : i ≡ length pre + 0 = omega arith in
    joined before (literal_operand names x i n (ap (λ (w : List (List ℕ)). slice_get w i) is ∙ slice_get-append_right pre (n ∷ []) 0 i z)) refl refl
conjunction_from names x pre i n (m ∷ ms) v ts is at before =
    let z : i ≡ length pre + 0 = omega arith in
    let lit = literal_operand names x i n (ap (λ (w : List (List ℕ)). slice_get w i) is ∙ slice_get-append_right pre (n ∷ m ∷ ms) 0 i z) in
    let more : AreConjuncts names MOST_DEPTH (v ++ (literal_tokens x n ++ token.And ∷ [])) (ts ++ literal_tree x i n ∷ []) = operand before lit refl refl in
    let rest = conjunction_from names x (pre ++ n ∷ []) (i + 1) m ms (v ++ (literal_tokens x n ++ token.And ∷ [])) (ts ++ literal_tree x i n ∷ [])
    (is ∙ sym (append_assoc pre (n ∷ []) (m ∷ ms))) (omega (arith, length-append pre (n ∷ []))) more in
    let tokens : (v ++ (literal_tokens x n ++ token.And ∷ [])) ++ literals_tokens x (m ∷ ms) ≡ v ++ (literal_tokens x n ++ (token.And ∷ literals_tokens x (m ∷ ms))) =
    append_assoc v (literal_tokens x n ++ token.And ∷ []) (literals_tokens x (m ∷ ms))
    ∙ ap (λ (w : List Token). v ++ w) (append_assoc (literal_tokens x n) (token.And ∷ []) (literals_tokens x (m ∷ ms))) in
    let parts : (ts ++ literal_tree x i n ∷ []) ++ literal_trees x (i + 1) (m ∷ ms) ≡ ts ++ literal_trees x i (n ∷ m ∷ ms) =
    append_assoc ts (literal_tree x i n ∷ []) (literal_trees x (i + 1) (m ∷ ms)) in
    subst (λ (w : List Token). IsConjunction names MOST_DEPTH w (all_of (ts ++ literal_trees x i (n ∷ m ∷ ms)))) tokens
    (subst (λ (us : List LabelTree). IsConjunction names MOST_DEPTH ((v ++ (literal_tokens x n ++ token.And ∷ [])) ++ literals_tokens x (m ∷ ms)) (all_of us)) parts rest)

letter_conjunction : (all names : List (List ℕ)) (x : NameSet) → all ≡ names → IsConjunction all MOST_DEPTH (letter_tokens names x) (letter_tree names x)
letter_conjunction all [] x is = joined no_operand always refl refl
letter_conjunction all (n ∷ ns) x is = conjunction_from all x [] 0 n ns [] [] is refl no_operand

letter_written : (names : List (List ℕ)) (x : NameSet) → IsSum (letters_over names) MOST_DEPTH (letter_tokens names x) (letter_tree names x)
letter_written names x = letter_sum (either no_conjunction (letter_conjunction names names x refl) refl refl)

stem_written : (names : List (List ℕ)) (xs : List NameSet) (v : List Token) (ts : List LabelTree) → AreLetters names MOST_DEPTH v ts
    → AreLetters names MOST_DEPTH (v ++ stem_tokens names xs) (ts ++ map (letter_tree names) xs)
stem_written names [] v ts before = subst (λ (w : List Token). AreLetters names MOST_DEPTH w (ts ++ [])) (sym (append-nil v))
    (subst (λ (us : List LabelTree). AreLetters names MOST_DEPTH v us) (sym (append-nil ts)) before)
stem_written names (x ∷ xs) v ts before =
    let more : AreLetters names MOST_DEPTH (v ++ (letter_tokens names x ++ token.Semicolon ∷ [])) (ts ++ letter_tree names x ∷ []) = letter before (letter_written names x) refl refl in
    let rest = stem_written names xs (v ++ (letter_tokens names x ++ token.Semicolon ∷ [])) (ts ++ letter_tree names x ∷ []) more in
    let tokens : (v ++ (letter_tokens names x ++ token.Semicolon ∷ [])) ++ stem_tokens names xs ≡ v ++ (letter_tokens names x ++ (token.Semicolon ∷ stem_tokens names xs)) =
    append_assoc v (letter_tokens names x ++ token.Semicolon ∷ []) (stem_tokens names xs)
    ∙ ap (λ (w : List Token). v ++ w) (append_assoc (letter_tokens names x) (token.Semicolon ∷ []) (stem_tokens names xs)) in
    subst (λ (w : List Token). AreLetters names MOST_DEPTH w (ts ++ map (letter_tree names) (x ∷ xs))) tokens
    (subst (λ (us : List LabelTree). AreLetters names MOST_DEPTH ((v ++ (letter_tokens names x ++ token.Semicolon ∷ [])) ++ stem_tokens names xs) us)
    (append_assoc ts (letter_tree names x ∷ []) (map (letter_tree names) xs)) rest)

record CycleWritten (names : List (List ℕ)) (tokens : List Token) (trees : List LabelTree) : Type 0 where
  front : List Token
  last_tokens : List Token
  first : List LabelTree
  last : LabelTree
  letters : AreLetters names MOST_DEPTH front first
  last_letter : IsSum (letters_over names) MOST_DEPTH last_tokens last
  spelled : tokens ≡ front ++ last_tokens
  parts : trees ≡ first ++ last ∷ []

cycle_written : (names : List (List ℕ)) (x : NameSet) (xs : List NameSet) (v : List Token) (ts : List LabelTree) → AreLetters names MOST_DEPTH v ts
    → CycleWritten names (v ++ cycle_tokens names (x ∷ xs)) (ts ++ map (letter_tree names) (x ∷ xs))
cycle_written names x [] v ts before = record
    { front = v; last_tokens = letter_tokens names x; first = ts; last = letter_tree names x; letters = before; last_letter = letter_written names x; spelled = refl; parts = refl }
cycle_written names x (y ∷ ys) v ts before =
    let more : AreLetters names MOST_DEPTH (v ++ (letter_tokens names x ++ token.Semicolon ∷ [])) (ts ++ letter_tree names x ∷ []) = letter before (letter_written names x) refl refl in
    let rest = cycle_written names y ys (v ++ (letter_tokens names x ++ token.Semicolon ∷ [])) (ts ++ letter_tree names x ∷ []) more in
    let tokens : (v ++ (letter_tokens names x ++ token.Semicolon ∷ [])) ++ cycle_tokens names (y ∷ ys) ≡ v ++ (letter_tokens names x ++ (token.Semicolon ∷ cycle_tokens names (y ∷ ys))) =
    append_assoc v (letter_tokens names x ++ token.Semicolon ∷ []) (cycle_tokens names (y ∷ ys))
    ∙ ap (λ (w : List Token). v ++ w) (append_assoc (letter_tokens names x) (token.Semicolon ∷ []) (cycle_tokens names (y ∷ ys))) in
    record {
      front = rest.front;
      last_tokens = rest.last_tokens;
      first = rest.first;
      last = rest.last;
      letters = rest.letters;
      last_letter = rest.last_letter;
      spelled = sym tokens
          ∙ rest.spelled;
      parts = sym (append_assoc ts (letter_tree names x ∷ []) (map (letter_tree names) (y ∷ ys))) ∙ rest.parts;
    }

-- the names of the tokens
literal_names : (x : NameSet) (n : List ℕ) → token_names (literal_tokens x n) ≡ n ∷ []
literal_names x n = elim (cases_Bool (contains x n)) [ inl e ↦ ap token_names (cond-true _ _ _ e) | inr e ↦ ap token_names (cond-false _ _ _ e) ]

literals_names : (x : NameSet) (n : List ℕ) (ns : List (List ℕ)) → token_names (literals_tokens x (n ∷ ns)) ≡ n ∷ ns
literals_names x n [] = literal_names x n
literals_names x n (m ∷ ms) = names_of-append (literal_tokens x n) (token.And ∷ literals_tokens x (m ∷ ms))
    ∙ (ap (λ (w : List (List ℕ)). w ++ token_names (literals_tokens x (m ∷ ms))) (literal_names x n) ∙ ap (λ (w : List (List ℕ)). n ∷ w) (literals_names x m ms))

letter_names : (names : List (List ℕ)) (x : NameSet) → token_names (letter_tokens names x) ≡ names
letter_names [] x = refl
letter_names (n ∷ ns) x = literals_names x n ns

has_each : (names ns : List (List ℕ)) → ((n : List ℕ) → Has n ns → Has n names) → AllByRecursion (λ n. Has n names) ns
has_each names [] each = tt
has_each names (n ∷ ns) each = (each n (inl refl), has_each names ns (λ m h. each m (inr h)))

has_all : (names : List (List ℕ)) → AllByRecursion (λ n. Has n names) names
has_all names = has_each names names (λ n h. h)

abbrev Within : List (List ℕ) → List (List ℕ) → Type 0
Within names ns = AllByRecursion (λ n. Has n names) ns

letter_within : (names : List (List ℕ)) (x : NameSet) (ts : List Token) → Within names (token_names ts) → Within names (token_names (letter_tokens names x ++ ts))
letter_within names x ts all = subst (λ (w : List (List ℕ)). Within names w)
    (sym (names_of-append (letter_tokens names x) ts ∙ ap (λ (w : List (List ℕ)). w ++ token_names ts) (letter_names names x)))
    (AllByRecursion-append (λ n. Has n names) names (token_names ts) (has_all names) all)

stem_within : (names : List (List ℕ)) (xs : List NameSet) (ts : List Token) → Within names (token_names ts) → Within names (token_names (stem_tokens names xs ++ ts))
stem_within names [] ts all = all
stem_within names (x ∷ xs) ts all = subst (λ (w : List Token). Within names (token_names w)) (sym (append_assoc (letter_tokens names x) (token.Semicolon ∷ stem_tokens names xs) ts))
    (letter_within names x (token.Semicolon ∷ (stem_tokens names xs ++ ts)) (stem_within names xs ts all))

cycle_within : (names : List (List ℕ)) (x : NameSet) (xs : List NameSet) (ts : List Token) → Within names (token_names ts) → Within names (token_names (cycle_tokens names (x ∷ xs) ++ ts))
cycle_within names x [] ts all = letter_within names x ts all
cycle_within names x (y ∷ ys) ts all = subst (λ (w : List Token). Within names (token_names w)) (sym (append_assoc (letter_tokens names x) (token.Semicolon ∷ cycle_tokens names (y ∷ ys)) ts))
    (letter_within names x (token.Semicolon ∷ (cycle_tokens names (y ∷ ys) ++ ts)) (cycle_within names y ys ts all))

-- names that differ are their own list of first occurrences
others_all : (n : List ℕ) (ns : List (List ℕ)) → (Has n ns → ⊥) → others n ns ≡ ns
others_all n ns lacks = all_kept (λ m. not (same_text n m)) ns (each ns (λ m h e. lacks (subst (λ (z : List ℕ). Has z ns) (sym e) h)))
  where
    each : (ms : List (List ℕ)) → ((m : List ℕ) → Has m ms → n ≡ m → ⊥) → AllByRecursion (λ m. not (same_text n m) ≡ true) ms
    each [] other = tt
    each (m ∷ ms) other = (not_from_false (same_text n m) (differ_texts n m (other m (inl refl))), each ms (λ k h. other k (inr h)))

distinct_own : (ns : List (List ℕ)) → Differ ns → each_once ns ≡ ns
distinct_own [] d = refl
distinct_own (n ∷ ns) d = ap (λ (w : List (List ℕ)). n ∷ others n w) (distinct_own ns d.1) ∙ ap (λ (w : List (List ℕ)). n ∷ w) (others_all n ns d.0)

distinct_more : (names ns more : List (List ℕ)) → each_once ns ≡ names → Within names more → each_once (ns ++ more) ≡ names
distinct_more names ns [] is all = ap each_once (append-nil ns) ∙ is
distinct_more names ns (m ∷ ms) is all =
    let here : each_once (ns ++ m ∷ []) ≡ each_once ns = (mutual_push m ns).0 (subst (λ (w : List (List ℕ)). Has m w) (sym is) all.0) in
    ap each_once (sym (append_assoc ns (m ∷ []) ms)) ∙ distinct_more names (ns ++ m ∷ []) ms (here ∙ is) all.1

differ_from : (ns : List (List ℕ)) → Pairs (λ a b. a ≡ b → ⊥) ns → Differ ns
differ_from [] p = tt
differ_from (n ∷ ns) p = (lacks ns p.0, differ_from ns p.1)
  where
    lacks : (ms : List (List ℕ)) → AllByRecursion (λ m. n ≡ m → ⊥) ms → Has n ms → ⊥
    lacks [] all h = h
    lacks (m ∷ ms) all (inl e) = all.0 (sym e)
    lacks (m ∷ ms) all (inr h) = lacks ms all.1 h

-- the first letter's names and those that follow
letter_first : (names : List (List ℕ)) (x : NameSet) (ts all : List Token) → Differ names → all ≡ letter_tokens names x ++ ts → Within names (token_names ts) → each_once (token_names all) ≡ names
letter_first names x ts all d is within = ap (λ (w : List Token). each_once (token_names w)) is
    ∙ (ap each_once (names_of-append (letter_tokens names x) ts ∙ ap (λ (w : List (List ℕ)). w ++ token_names ts) (letter_names names x))
    ∙ distinct_more names names (token_names ts) (distinct_own names d) within)

word_names : (names : List (List ℕ)) (u : List NameSet) (x : NameSet) (xs : List NameSet) → Differ names → each_once (token_names (word_tokens names u (x ∷ xs))) ≡ names
word_names names [] x [] d = letter_first names x (token.RightBrace ∷ []) (cycle_tokens names (x ∷ []) ++ token.RightBrace ∷ []) d refl tt
word_names names [] x (y ∷ ys) d = letter_first names x (token.Semicolon ∷ (cycle_tokens names (y ∷ ys) ++ token.RightBrace ∷ [])) (cycle_tokens names (x ∷ y ∷ ys) ++ token.RightBrace ∷ [])
    d (append_assoc (letter_tokens names x) (token.Semicolon ∷ cycle_tokens names (y ∷ ys)) (token.RightBrace ∷ [])) (cycle_within names y ys (token.RightBrace ∷ []) tt)
word_names names (z ∷ zs) x xs d =
    letter_first names z (token.Semicolon ∷ (stem_tokens names zs ++ (token.Cycle ∷ token.LeftBrace ∷ (cycle_tokens names (x ∷ xs) ++ token.RightBrace ∷ [])))) (word_tokens names (z ∷ zs) (x ∷ xs)) d
    (append_assoc (letter_tokens names z) (token.Semicolon ∷ stem_tokens names zs) (token.Cycle ∷ token.LeftBrace ∷ (cycle_tokens names (x ∷ xs) ++ token.RightBrace ∷ [])))
    (stem_within names zs (token.Cycle ∷ token.LeftBrace ∷ (cycle_tokens names (x ∷ xs) ++ token.RightBrace ∷ [])) (cycle_within names x xs (token.RightBrace ∷ []) tt))

abbrev printed_pattern : List (List ℕ) → List NameSet → List NameSet → WordPattern
printed_pattern names u v = record { names = names; stem = map (letter_tree names) u; cycle = map (letter_tree names) v }

word_written : (names : List (List ℕ)) (u : List NameSet) (x : NameSet) (xs : List NameSet) → Differ names → IsWord (word_tokens names u (x ∷ xs)) (printed_pattern names u (x ∷ xs))
word_written names u x xs d =
    let cycle = cycle_written names x xs [] [] no_letter in
    record {
      stem_tokens = stem_tokens names u;
      cycle_tokens = cycle.front;
      last_tokens = cycle.last_tokens;
      first = cycle.first;
      last = cycle.last;
      names = sym (word_names names u x xs d);
      stem = stem_written names u [] [] no_letter;
      letters = cycle.letters;
      last_letter = cycle.last_letter;
      cycle = cycle.parts;
      spelled = ap (λ (w : List Token). stem_tokens names u ++ (token.Cycle ∷ token.LeftBrace ∷ w)) (ap (λ (w : List Token). w ++ token.RightBrace ∷ []) cycle.spelled
          ∙ append_assoc cycle.front cycle.last_tokens (token.RightBrace ∷ []));
    }

literal_truth : (names : List (List ℕ)) (x y : NameSet) (i : ℕ) (n : List ℕ) → slice_get names i ≡ Some n → (truth (holds_at names x) (literal_tree y i n) ≡ true) ↔ (contains x n ≡ contains y n)
literal_truth names x y i n stands =
    let holds : holds_at names x i ≡ contains x n = ap (λ (o : Option (List ℕ)). option_map_or (contains x) o false) stands in
    elim (cases_Bool (contains y n)) [
      | inl e ↦ (let t : truth (holds_at names x) (literal_tree y i n) ≡ contains x n = ap (truth (holds_at names x)) (cond-true _ _ _ e) ∙ holds in
          (λ h. sym t ∙ (h ∙ sym e), λ h. t ∙ (h ∙ e)))
      | inr e ↦ (let t : truth (holds_at names x) (literal_tree y i n) ≡ not (contains x n) = ap (truth (holds_at names x)) (cond-false _ _ _ e) ∙ ap not holds in
          (λ h. negated_true (contains x n) (sym t ∙ h) ∙ sym e, λ h. t ∙ ap not (h ∙ e)))
    ]
  where
    negated_true : (b : Bool) → not b ≡ true → b ≡ false
    negated_true true h = sym h
    negated_true false h = refl

trees_truth : (names : List (List ℕ)) (x y : NameSet) (pre : List (List ℕ)) (i : ℕ) (ns : List (List ℕ)) → names ≡ pre ++ ns → i ≡ length pre
    → (list_all (truth (holds_at names x)) (literal_trees y i ns) ≡ true) ↔ ((n : List ℕ) → Has n ns → contains x n ≡ contains y n)
trees_truth names x y pre i [] is at = (λ h n has. absurd has, λ h. refl)
trees_truth names x y pre i (m ∷ ms) is at =
    let z : i ≡ length pre + 0 = omega arith in
    let one = literal_truth names x y i m (ap (λ (w : List (List ℕ)). slice_get w i) is ∙ slice_get-append_right pre (m ∷ ms) 0 i z) in
    let rest = trees_truth names x y (pre ++ m ∷ []) (i + 1) ms (is ∙ sym (append_assoc pre (m ∷ []) ms)) (omega (arith, length-append pre (m ∷ []))) in (
      (λ h. (let parts = and_parts _ _ h in λ n has. elim has [
        | inl e ↦ subst (λ (k : List ℕ). contains x k ≡ contains y k) e (one.0 parts.0)
        | inr later ↦ rest.0 parts.1 n later
      ])),
      λ h. and_from _ _ (one.1 (h m (inl refl))) (rest.1 (λ n has. h n (inr has))),
    )

letter_truth : (names : List (List ℕ)) (x y : NameSet) → (truth (holds_at names x) (letter_tree names y) ≡ true) ↔ AgreesOn names x y
letter_truth names x y =
    let all = trees_truth names x y [] 0 names refl refl in
    let t = truth-all_of (holds_at names x) (literal_trees y 0 names) in
    ((λ h n c. all.0 (sym t ∙ h) n (contains_has names n c.0 c.1 c.2)), λ h. t ∙ all.1 (λ n has. h n (has_contains names n has)))

all_meet_agree : (names : List (List ℕ)) (xs ys : List NameSet) → AllMeet names xs (map (letter_tree names) ys) ↔ AllAgree names xs ys
all_meet_agree names [] [] = (λ h. h, λ h. h)
all_meet_agree names [] (y ∷ ys) = (λ h. h, λ h. h)
all_meet_agree names (x ∷ xs) [] = (λ h. h, λ h. h)
all_meet_agree names (x ∷ xs) (y ∷ ys) =
    let one = letter_truth names x y in
    let rest = all_meet_agree names xs ys in
    (λ h. (one.0 h.0, rest.0 h.1), λ h. (one.1 h.0, rest.1 h.1))

map-copies : (f : NameSet → LabelTree) (k : ℕ) (v : List NameSet) → map f (copies k v) ≡ copies k (map f v)
map-copies f zero v = refl
map-copies f (suc k) v = map-append f v (copies k v) ∙ ap (λ (ts : List LabelTree). map f v ++ ts) (map-copies f k v)

-- an unrolled lasso is one of the same infinite word
unrolled_same : (u v : List NameSet) (stem_rounds cycle_rounds : ℕ) → 0 < length v → 0 < cycle_rounds → SpellsSame (u ++ copies stem_rounds v) (copies cycle_rounds v) u v
unrolled_same u v stem_rounds cycle_rounds some more n =
    let long : length (u ++ copies stem_rounds v) ≡ length u + stem_rounds * length v = length-append u (copies stem_rounds v) ∙ ap (λ (k : ℕ). length u + k) (length-copies stem_rounds v) in
    let size : length (copies cycle_rounds v) ≡ cycle_rounds * length v = length-copies cycle_rounds v in
    elim (cases_lt n (length u + stem_rounds * length v)) [
      | inl inside ↦ stem_letter (u ++ copies stem_rounds v) (copies cycle_rounds v) n (omega arith) ∙ sym (word_letter u v stem_rounds n some inside)
      | inr past ↦ (let positive : 0 < cycle_rounds * length v = times cycle_rounds (length v) more some in
          let below : (n - (length u + stem_rounds * length v)) % (cycle_rounds * length v) < cycle_rounds * length v = omega arith in
          let split : n - length u ≡ n - (length u + stem_rounds * length v) + length v * stem_rounds = omega arith in
          at_cycle (u ++ copies stem_rounds v) (copies cycle_rounds v) n (omega arith)
          ∙ (ap (λ (k : ℕ). slice_get (copies cycle_rounds v) ((n - k) % length (copies cycle_rounds v))) long
          ∙ (ap (λ (k : ℕ). slice_get (copies cycle_rounds v) ((n - (length u + stem_rounds * length v)) % k)) size
          ∙ (copies_at cycle_rounds v ((n - (length u + stem_rounds * length v)) % (cycle_rounds * length v)) below
          ∙ (ap (slice_get v) (mod_of_multiple (n - (length u + stem_rounds * length v)) (cycle_rounds * length v) cycle_rounds (length v) refl)
          ∙ (ap (slice_get v) (sym (add-mul-mod_self_left (n - (length u + stem_rounds * length v)) (length v) stem_rounds) ∙ ap (λ (k : ℕ). k % length v) (sym split))
          ∙ sym (at_cycle u v n (omega arith))))))))
    ]
  where
    times : (k l : ℕ) → 0 < k → 0 < l → 0 < k * l
    times zero l h m = absurd (omega arith)
    times (suc k) l h m = omega arith

printed_matches : (names : List (List ℕ)) (u v : List NameSet) → 0 < length v → (x y : List NameSet) → Matches (printed_pattern names u v) x y ↔ AgreesUnrolled names u v x y
printed_matches names u v some x y = (
  (λ m. (let stem : map (letter_tree names) u ++ copies m.stem_rounds (map (letter_tree names) v) ≡ map (letter_tree names) (u ++ copies m.stem_rounds v) =
      sym (map-append (letter_tree names) u (copies m.stem_rounds v) ∙ ap (λ (ts : List LabelTree). map (letter_tree names) u ++ ts) (map-copies (letter_tree names) m.stem_rounds v)) in
      record {
        stem_rounds = m.stem_rounds;
        cycle_rounds = m.cycle_rounds;
        some = m.some;
        same = unrolled_same u v m.stem_rounds m.cycle_rounds some m.some;
        stem = (all_meet_agree names x (u ++ copies m.stem_rounds v)).0 (subst (λ (ts : List LabelTree). AllMeet names x ts) stem m.stem);
        cycle = (all_meet_agree names y (copies m.cycle_rounds v)).0 (subst (λ (ts : List LabelTree). AllMeet names y ts) (sym (map-copies (letter_tree names) m.cycle_rounds v)) m.cycle);
      })),
  λ a. (let stem : map (letter_tree names) (u ++ copies a.stem_rounds v) ≡ map (letter_tree names) u ++ copies a.stem_rounds (map (letter_tree names) v) =
      map-append (letter_tree names) u (copies a.stem_rounds v) ∙ ap (λ (ts : List LabelTree). map (letter_tree names) u ++ ts) (map-copies (letter_tree names) a.stem_rounds v) in
      record {
        stem_rounds = a.stem_rounds;
        cycle_rounds = a.cycle_rounds;
        some = a.some;
        stem = subst (λ (ts : List LabelTree). AllMeet names x ts) stem ((all_meet_agree names x (u ++ copies a.stem_rounds v)).1 a.stem);
        cycle = subst (λ (ts : List LabelTree). AllMeet names y ts) (map-copies (letter_tree names) a.cycle_rounds v) ((all_meet_agree names y (copies a.cycle_rounds v)).1 a.cycle);
      }),
)

pub printed_is_read_back : PrintedIsReadBack
printed_is_read_back names u [] differ some short = absurd (omega arith)
printed_is_read_back names u (x ∷ xs) differ some short =
    let d : Differ names = differ_from names (pairs_from (λ a b. a ≡ b → ⊥) names differ) in
    record {
      pattern = printed_pattern names u (x ∷ xs);
      writes = record { short = short; tokens = word_tokens names u (x ∷ xs); rest = []; lexes = printed_tokens names u (x ∷ xs) some; blank = refl; word = word_written names u x xs d };
      names_are = refl;
      matches = printed_matches names u (x ∷ xs) some;
    }
