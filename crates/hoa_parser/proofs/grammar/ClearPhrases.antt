-- Phrases whose tokens have one meaning and one end, and lists of them.
use Rattle.std.proofs.Common.{◌≡◌, Bool, true, false, List, [], ◌∷◌, ◌++◌, map, flat_map, refl, sym, ◌∙◌}
use Rattle.std.specs.Prelude.{◌||◌}
use Rattle.std.proofs.lemmas.List.{append_assoc}
use Rattle.hoa_lexer.specs.declared.token.Token.{Token}
use Rattle.hoa_parser.proofs.grammar.Stops.{Stops, IsSame, stops_not, first_token, later_tokens}
use Rattle.aut_base.proofs.numbers.Truth.{left_of_or, right_of_or}

-- tokens of phrases, of which these stop the last, have one meaning and one end
abbrev pub IsClear : {P M : Type 0} → (P → List Token) → (P → M) → (Token → Bool) → Type 0
IsClear {P} tokens meaning goes_on =
    (p q : P) (c d : List Token) → tokens p ++ c ≡ tokens q ++ d → Stops goes_on c → Stops goes_on d → IsSame (meaning p) (meaning q) c d

-- the tokens begin with such a one
abbrev pub Begins : (Token → Bool) → List Token → Type 0
Begins starts [] = ⊥
Begins starts (t ∷ ts) = starts t ≡ true

pub stops_less : (p q : Token → Bool) (c : List Token) → ((t : Token) → p t ≡ false → q t ≡ false) → Stops p c → Stops q c
stops_less p q [] less s = tt
stops_less p q (t ∷ ts) less s = less t s

pub stops_append : (p : Token → Bool) (ts c : List Token) → Stops p ts → Stops p c → Stops p (ts ++ c)
stops_append p [] c s k = k
stops_append p (t ∷ ts) c s k = s

begins_stops : (p starts : Token → Bool) (ts : List Token) → ((t : Token) → starts t ≡ true → p t ≡ false) → Begins starts ts → Stops p ts
begins_stops p starts [] apart b = absurd b
begins_stops p starts (t ∷ ts) apart b = apart t b

-- what begins with none of the phrases
pub flat_stops : {P : Type 0} (tokens : P → List Token) (p starts : Token → Bool) → ((x : P) → Begins starts (tokens x)) → ((t : Token) → starts t ≡ true → p t ≡ false)
    → (ps : List P) (c : List Token) → Stops p c → Stops p (flat_map tokens ps ++ c)
flat_stops tokens p starts begins apart [] c s = s
flat_stops tokens p starts begins apart (x ∷ xs) c s =
    rw (append_assoc (tokens x) (flat_map tokens xs) c)
    (stops_append p (tokens x) (flat_map tokens xs ++ c) (begins_stops p starts (tokens x) apart (begins x)) (flat_stops tokens p starts begins apart xs c s))

begun_not : (starts : Token → Bool) (ts more c : List Token) → Begins starts ts → Stops starts c → c ≡ (ts ++ more) → ⊥
begun_not starts [] more c b s e = b
begun_not starts (t ∷ ts) more c b s e = stops_not starts c t (ts ++ more) s b e

abbrev pub either : (Token → Bool) → (Token → Bool) → Token → Bool
either p q t = p t || q t

-- a list of phrases, each of which is clear where the next one begins
pub flat_clear : {P M : Type 0} (tokens : P → List Token) (meaning : P → M) (goes_on starts : Token → Bool)
    → IsClear tokens meaning goes_on → ((p : P) → Begins starts (tokens p)) → ((t : Token) → starts t ≡ true → goes_on t ≡ false)
    → IsClear (flat_map tokens) (map meaning) (either starts goes_on)
flat_clear tokens meaning goes_on starts one begins apart [] [] c d e s k = record { value = refl; rest = e }
flat_clear tokens meaning goes_on starts one begins apart [] (q ∷ qs) c d e s k =
    absurd (begun_not starts (tokens q) (flat_map tokens qs ++ d) c (begins q) (stops_less (either starts goes_on) starts c (λ t. left_of_or (starts t) (goes_on t)) s)
    (e ∙ append_assoc (tokens q) (flat_map tokens qs) d))
flat_clear tokens meaning goes_on starts one begins apart (p ∷ ps) [] c d e s k =
    absurd (begun_not starts (tokens p) (flat_map tokens ps ++ c) d (begins p) (stops_less (either starts goes_on) starts d (λ t. left_of_or (starts t) (goes_on t)) k)
    (sym e ∙ append_assoc (tokens p) (flat_map tokens ps) c))
flat_clear tokens meaning goes_on starts one begins apart (p ∷ ps) (q ∷ qs) c d e s k =
    let a = one p q (flat_map tokens ps ++ c) (flat_map tokens qs ++ d)
    (sym (append_assoc (tokens p) (flat_map tokens ps) c) ∙ e ∙ append_assoc (tokens q) (flat_map tokens qs) d)
    (flat_stops tokens goes_on starts begins apart ps c (stops_less (either starts goes_on) goes_on c (λ t. right_of_or (starts t) (goes_on t)) s))
    (flat_stops tokens goes_on starts begins apart qs d (stops_less (either starts goes_on) goes_on d (λ t. right_of_or (starts t) (goes_on t)) k)) in
    let b = flat_clear tokens meaning goes_on starts one begins apart ps qs c d a.rest s k in
    let x = a.value in
    let y = b.value in
    record { value = cc; rest = b.rest }

-- a list of tokens of one kind
pub map_clear : {X M : Type 0} (token : X → Token) (meaning : X → M) (goes_on : Token → Bool)
    → ((x y : X) → token x ≡ token y → meaning x ≡ meaning y) → ((x : X) → goes_on (token x) ≡ true) → IsClear (map token) (map meaning) goes_on
map_clear token meaning goes_on one goes [] [] c d e s k = record { value = refl; rest = e }
map_clear token meaning goes_on one goes [] (y ∷ ys) c d e s k = absurd (stops_not goes_on c (token y) _ s (goes y) e)
map_clear token meaning goes_on one goes (x ∷ xs) [] c d e s k = absurd (stops_not goes_on d (token x) _ k (goes x) (sym e))
map_clear token meaning goes_on one goes (x ∷ xs) (y ∷ ys) c d e s k =
    let a = map_clear token meaning goes_on one goes xs ys c d (later_tokens (token x) (token y) _ _ e) s k in
    let first = one x y (first_token (token x) (token y) _ _ e) in
    let others = a.value in
    record { value = cc; rest = a.rest }
