-- Texts that are made of pieces.
use Rattle.std.proofs.Common.{◌≡◌, ℕ, eqb, ◌-◌, ◌<◌, ◌≤◌, ◌∙◌, sym, ap, refl, arith, Bool, true, false, ◌||◌, List, [], ◌∷◌, ◌++◌, map, length, take, drop, get_or}
use Rattle.std.proofs.lemmas.Bool.{eqb-false}
use Rattle.std.proofs.lemmas.List.{append-nil, append_assoc, map-append, take_all, take_rest, length-drop}
use Rattle.std.proofs.lemmas.List.Concat.{flat_map-append}
use Rattle.std.specs.List.{flat_map}
use Rattle.std.specs.Prelude.{codes}
use Rattle.aut_base.proofs.lists.Members.{map_alike}
use Rattle.aut_base.specs.CanonicalLabel as canonical
use Rattle.aut_base.specs.LabelText.{joined, literal_text}
use Rattle.label_guards.specs.Pieces.{each_after, pieces_after, cube_piece, literal_of, is_any, WritesCubes}
use Rattle.label_guards.specs.declared.cubes.Literal.{Literal}

-- after the first piece, each stands after the separator
pub joined_each : (separator piece : List ℕ) (pieces : List (List ℕ)) → joined separator (piece ∷ pieces) ≡ piece ++ each_after separator pieces
joined_each separator piece [] = sym (append-nil piece)
joined_each separator piece (next ∷ pieces) =
    ap (λ t. piece ++ (separator ++ t)) (joined_each separator next pieces) ∙ ap (λ t. piece ++ t) (sym (append_assoc separator next (each_after separator pieces)))

pub each_after-map : {A : Type 0} (separator : List ℕ) (f : A → List ℕ) (xs : List A) → each_after separator (map f xs) ≡ flat_map (λ x. separator ++ f x) xs
each_after-map separator f [] = refl
each_after-map separator f (x ∷ xs) = ap (λ t. (separator ++ f x) ++ t) (each_after-map separator f xs)

pub joined_more : {A : Type 0} (separator : List ℕ) (f : A → List ℕ) (x : A) (xs : List A) → joined separator (map f (x ∷ xs)) ≡ f x ++ flat_map (λ y. separator ++ f y) xs
joined_more separator f x xs = joined_each separator (f x) (map f xs) ∙ ap (λ t. f x ++ t) (each_after-map separator f xs)

pub map-map : {A B C : Type 0} (f : B → C) (g : A → B) (xs : List A) → map f (map g xs) ≡ map (λ x. f (g x)) xs
map-map f g [] = refl
map-map f g (x ∷ xs) = ap (λ ys. f (g x) ∷ ys) (map-map f g xs)

-- a cube with a literal, as it is written
pub cube_piece_more : (cube : List Literal) (d : Literal) → 0 < length cube
    → cube_piece (map literal_of cube) ≡ literal_text (literal_of (get_or cube 0 d)) ++ flat_map (λ l. codes "&" ++ literal_text (literal_of l)) (drop 1 cube)
cube_piece_more [] d h = absurd (omega arith)
cube_piece_more (l ∷ ls) d h = ap (joined (codes "&")) (map-map literal_text literal_of (l ∷ ls)) ∙ joined_more (codes "&") (λ x. literal_text (literal_of x)) l ls

-- pieces, and then others
pub pieces_split : (before : Bool) (separator : List ℕ) (xs ys : List (List ℕ))
    → pieces_after before separator (xs ++ ys) ≡ pieces_after before separator xs ++ pieces_after (before || is_any xs) separator ys
pieces_split true separator xs ys = flat_map-append (λ piece. separator ++ piece) xs ys
pieces_split false separator [] ys = refl
pieces_split false separator (x ∷ xs) ys =
    joined_each separator x (xs ++ ys) ∙ (ap (λ t. x ++ t) (flat_map-append (λ piece. separator ++ piece) xs ys)
    ∙ (sym (append_assoc x (each_after separator xs) (each_after separator ys)) ∙ ap (λ t. t ++ each_after separator ys) (sym (joined_each separator x xs))))

pub is_any-map : {A B : Type 0} (f : A → B) (xs : List A) → is_any (map f xs) ≡ is_any xs
is_any-map f [] = refl
is_any-map f (x ∷ xs) = refl

pub is_any-append : {A : Type 0} (xs ys : List A) → is_any (xs ++ ys) ≡ (is_any xs || is_any ys)
is_any-append [] ys = refl
is_any-append (x ∷ xs) ys = refl

-- all but the first, gone over to the end
pub all_others : {A : Type 0} (xs : List A) (i : ℕ) → length xs - 1 ≤ i → take i (take (length xs - 1) (drop 1 xs)) ≡ drop 1 xs
all_others xs i h =
    ap (take i) (take_rest xs 1) ∙ take_all i (drop 1 xs) (let size = length-drop 1 xs in omega arith)

-- a cube after its first literal and the others
pub cube_written : (cube : List Literal) (d : Literal) (i : ℕ) (out one two : List ℕ) → 0 < length cube → length cube - 1 ≤ i → one ≡ out ++ literal_text (literal_of (get_or cube 0 d))
    → two ≡ one ++ flat_map (λ l. codes "&" ++ literal_text (literal_of l)) (take i (take (length cube - 1) (drop 1 cube))) → two ≡ out ++ cube_piece (map literal_of cube)
cube_written cube d i out one two some h first rest =
    let others = flat_map (λ (l : Literal). codes "&" ++ literal_text (literal_of l)) in
    rest ∙ (ap (λ ls. one ++ others ls) (all_others cube i h) ∙ (ap (λ t. t ++ others (drop 1 cube)) first
    ∙ (append_assoc out (literal_text (literal_of (get_or cube 0 d))) (others (drop 1 cube)) ∙ ap (λ t. out ++ t) (sym (cube_piece_more cube d some)))))

-- what a test for an empty list says
pub some_item : (n : ℕ) (is_empty : Bool) → is_empty ≡ false → is_empty ≡ eqb n 0 → 0 < n
some_item n is_empty f e =
    let some = eqb-false n 0 (sym e ∙ f) in
    omega arith

-- an item in front of each list is an item behind what stands in front
map-front : {A B : Type 0} (f : List A → B) (front : List A) (a : A) (lists : List (List A))
    → map (λ rest. f (front ++ rest)) (map (λ v. a ∷ v) lists) ≡ map (λ rest. f ((front ++ a ∷ []) ++ rest)) lists
map-front f front a lists =
    map-map (λ rest. f (front ++ rest)) (λ v. a ∷ v) lists
    ∙ map_alike (λ v. f (front ++ a ∷ v)) (λ v. f ((front ++ a ∷ []) ++ v)) lists (λ v there. ap f (sym (append_assoc front (a ∷ []) v)))

or_assoc : (a b c : Bool) → ((a || b) || c) ≡ (a || (b || c))
or_assoc true b c = refl
or_assoc false b c = refl

abbrev under : List canonical.Literal → List (List canonical.Literal) → List (List ℕ)
under literals cs = map (λ cube. cube_piece (literals ++ cube)) cs

both_texts : (literals : List canonical.Literal) (fails holds : canonical.Literal) (low high all : List (List canonical.Literal)) (before mid : Bool) (old between new : List ℕ)
    → all ≡ map (λ cube. fails ∷ cube) low ++ map (λ cube. holds ∷ cube) high → between ≡ old ++ pieces_after before (codes " | ") (under (literals ++ fails ∷ []) low)
    → mid ≡ (before || is_any low) → new ≡ between ++ pieces_after mid (codes " | ") (under (literals ++ holds ∷ []) high) → new ≡ old ++ pieces_after before (codes " | ") (under literals all)
both_texts literals fails holds low high all before mid old between new e first m second =
    let lows = under (literals ++ fails ∷ []) low in
    let highs = under (literals ++ holds ∷ []) high in
    let apart : under literals all ≡ lows ++ highs = ap (under literals) e ∙ (map-append (λ cube. cube_piece (literals ++ cube)) (map (λ cube. fails ∷ cube) low) (map (λ cube. holds ∷ cube) high)
    ∙ (ap (λ xs. xs ++ under literals (map (λ cube. holds ∷ cube) high)) (map-front cube_piece literals fails low) ∙ ap (λ xs. lows ++ xs) (map-front cube_piece literals holds high))) in
    let any : (before || is_any lows) ≡ mid = ap (λ b. before || b) (is_any-map (λ cube. cube_piece ((literals ++ fails ∷ []) ++ cube)) low) ∙ sym m in
    let pieces : pieces_after before (codes " | ") (under literals all) ≡ pieces_after before (codes " | ") lows ++ pieces_after mid (codes " | ") highs =
    ap (pieces_after before (codes " | ")) apart ∙ (pieces_split before (codes " | ") lows highs ∙ ap (λ b. pieces_after before (codes " | ") lows ++ pieces_after b (codes " | ") highs) any) in
    second ∙ (ap (λ t. t ++ pieces_after mid (codes " | ") highs) first
    ∙ (append_assoc old (pieces_after before (codes " | ") lows) (pieces_after mid (codes " | ") highs) ∙ ap (λ t. old ++ t) (sym pieces)))

both_some : (fails holds : canonical.Literal) (low high all : List (List canonical.Literal)) (before mid now : Bool) → all ≡ map (λ cube. fails ∷ cube) low ++ map (λ cube. holds ∷ cube) high
    → mid ≡ (before || is_any low) → now ≡ (mid || is_any high) → now ≡ (before || is_any all)
both_some fails holds low high all before mid now e m n =
    let any : is_any all ≡ (is_any low || is_any high) = ap is_any e ∙ (is_any-append (map (λ cube. fails ∷ cube) low) (map (λ cube. holds ∷ cube) high)
    ∙ (ap (λ b. b || is_any (map (λ cube. holds ∷ cube) high)) (is_any-map (λ cube. fails ∷ cube) low) ∙ ap (λ b. is_any low || b) (is_any-map (λ cube. holds ∷ cube) high))) in
    n ∙ (ap (λ b. b || is_any high) m ∙ (or_assoc before (is_any low) (is_any high) ∙ ap (λ b. before || b) (sym any)))

-- the cubes where a proposition fails come before those where it holds
pub both_sides : (literals : List canonical.Literal) (fails holds : canonical.Literal) (low high all : List (List canonical.Literal)) (before mid now : Bool) (old between new : List ℕ)
    → all ≡ map (λ cube. fails ∷ cube) low ++ map (λ cube. holds ∷ cube) high → WritesCubes (literals ++ fails ∷ []) low before mid old between
    → WritesCubes (literals ++ holds ∷ []) high mid now between new → WritesCubes literals all before now old new
both_sides literals fails holds low high all before mid now old between new e first second = record {
  text = both_texts literals fails holds low high all before mid old between new e first.text first.some second.text;
  some = both_some fails holds low high all before mid now e first.some second.some;
}

-- no cube more
pub none_written : (literals : List canonical.Literal) (before : Bool) (text : List ℕ) → WritesCubes literals [] before before text text
none_written literals true text = record { text = sym (append-nil text); some = refl }
none_written literals false text = record { text = sym (append-nil text); some = refl }
