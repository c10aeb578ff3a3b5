-- Texts that are concatenations of pieces.
use Rattle.std.proofs.Common.{◌≡◌, ℕ, ◌+◌, ◌-◌, ◌<◌, ◌≤◌, ◌∙◌, ap, arith, List, [], ◌∷◌, ◌++◌, length, take, drop, get_or}
use Rattle.std.proofs.lemmas.List.{append-nil, append_assoc, get_or-drop, length-drop, take_all, take_more}
use Rattle.std.proofs.lemmas.List.Concat.{flat_map-append}
use Rattle.std.specs.Fmt.{decimal}
use Rattle.std.specs.List.{flat_map}
use Rattle.std.specs.Prelude.{codes}
use Rattle.hoa_writer.specs.CanonicalText.{marks_text, quoted}
use Rattle.hoa_writer.specs.inner.Lines.{names_line}
use Rattle.label_guards.proofs.labelled.Pieces.{joined_more}

-- marks, as they are written
pub marks_text_more : (marks : List ℕ) → 0 < length marks → marks_text marks ≡ codes " {" ++ (decimal (get_or marks 0 0) ++ (flat_map (λ m. codes " " ++ decimal m) (drop 1 marks) ++ codes "}"))
marks_text_more [] h = absurd (omega arith)
marks_text_more (m ∷ ms) h =
    ap (λ t. codes " {" ++ (t ++ codes "}")) (joined_more (codes " ") decimal m ms) ∙ ap (λ t. codes " {" ++ t) (append_assoc (decimal m) (flat_map (λ x. codes " " ++ decimal x) ms) (codes "}"))

-- marks after the first and the others
pub marks_written : (marks : List ℕ) (i : ℕ) (out one two three last : List ℕ) → 0 < length marks → length marks ≤ i → one ≡ out ++ codes " {" → two ≡ one ++ decimal (get_or marks 0 0)
    → three ≡ two ++ flat_map (λ m. codes " " ++ decimal m) (take (i - 1) (drop 1 marks)) → last ≡ three ++ codes "}" → last ≡ out ++ marks_text marks
marks_written marks i out one two three last some h open_ first rest close =
    let others = flat_map (λ (m : ℕ). codes " " ++ decimal m) in
    let far : length (drop 1 marks) ≤ i - 1 = omega (arith, h, length-drop 1 marks) in
    let all : three ≡ two ++ others (drop 1 marks) = rest ∙ ap (λ ms. two ++ others ms) (take_all (i - 1) (drop 1 marks) far) in
    let text = marks_text_more marks some in
    rw (close, all, first, open_, text) (simp append_assoc)

-- one of the others more
pub mark_written : (marks : List ℕ) (i mark : ℕ) (start old next new : List ℕ) → 1 ≤ i → i < length marks → get_or marks i 0 ≡ mark
    → old ≡ start ++ flat_map (λ m. codes " " ++ decimal m) (take (i - 1) (drop 1 marks)) → next ≡ old ++ codes " " → new ≡ next ++ decimal mark
    → new ≡ start ++ flat_map (λ m. codes " " ++ decimal m) (take (i + 1 - 1) (drop 1 marks))
mark_written marks i mark start old next new later within is so_far space number =
    let others = flat_map (λ (m : ℕ). codes " " ++ decimal m) in
    let step : i + 1 - 1 ≡ i - 1 + 1 = omega (arith, later) in
    let place : 1 + (i - 1) ≡ i = omega (arith, later) in
    let here : get_or (drop 1 marks) (i - 1) 0 ≡ mark = get_or-drop 1 marks (i - 1) 0 ∙ (ap (λ k. get_or marks k 0) place ∙ is) in
    let more : take (i + 1 - 1) (drop 1 marks) ≡ take (i - 1) (drop 1 marks) ++ mark ∷ [] =
    ap (λ k. take k (drop 1 marks)) step ∙ (take_more (drop 1 marks) (i - 1) 0 (omega (arith, within, later, length-drop 1 marks)) ∙ ap (λ m. take (i - 1) (drop 1 marks) ++ m ∷ []) here) in
    let text : others (take (i + 1 - 1) (drop 1 marks)) ≡ others (take (i - 1) (drop 1 marks)) ++ (codes " " ++ decimal mark) =
    ap others more ∙ (flat_map-append (λ m. codes " " ++ decimal m) (take (i - 1) (drop 1 marks)) (mark ∷ [])
    ∙ ap (λ t. others (take (i - 1) (drop 1 marks)) ++ t) (append-nil (codes " " ++ decimal mark))) in
    rw (number, space, so_far, text) (simp append_assoc)

-- one text and then another
pub two_written : (out one two a b whole : List ℕ) → one ≡ out ++ a → two ≡ one ++ b → a ++ b ≡ whole → two ≡ out ++ whole
two_written out one two a b whole first second e =
    second ∙ (ap (λ t. t ++ b) first ∙ (append_assoc out a b ∙ ap (λ t. out ++ t) e))

-- a line of four pieces
pub line_written : (out one two three four last a b c d e : List ℕ) → one ≡ out ++ a → two ≡ one ++ b → three ≡ two ++ c → four ≡ three ++ d → last ≡ four ++ e
    → last ≡ out ++ ((a ++ (b ++ (c ++ d))) ++ e)
line_written out one two three four last a b c d e f g h i j = rw (j, i, h, g, f) (simp append_assoc)

-- the line of the names
pub names_written : (names : List (List ℕ)) (i : ℕ) (out one two three last : List ℕ) → length names ≤ i → one ≡ out ++ codes "AP: " → two ≡ one ++ decimal (length names)
    → three ≡ two ++ flat_map (λ name. codes " " ++ quoted name) (take i names) → last ≡ three ++ codes "\n" → last ≡ out ++ names_line names
names_written names i out one two three last end f g h j =
    let all : take i names ≡ names = take_all i names end in
    rw (j, h, all, g, f) (simp append_assoc)

-- seven pieces, one after another
pub seven_written : (out one two three four five six last a b c d e f g : List ℕ) → one ≡ out ++ a → two ≡ one ++ b → three ≡ two ++ c → four ≡ three ++ d → five ≡ four ++ e
    → six ≡ five ++ f → last ≡ six ++ g → last ≡ out ++ (a ++ (b ++ (c ++ (d ++ (e ++ (f ++ g))))))
seven_written out one two three four five six last a b c d e f g h i j k l m n = rw (n, m, l, k, j, i, h) (simp append_assoc)
