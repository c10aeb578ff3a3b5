-- The text of cubes is spelled by a phrase of the grammar whose meaning is their tree.
use Rattle.std.proofs.Common.{◌≡◌, ℕ, zero, suc, ◌+◌, ◌^◌, ◌<◌, ◌≤◌, ◌⊎◌, inl, inr, Bool, true, false, cond, List, [], ◌∷◌, ◌++◌, map, refl, sym, subst, arith}
use Rattle.std.specs.Prelude.{codes}
use Rattle.std.proofs.lemmas.List.{append_assoc, append-nil}
use Rattle.aut_base.specs.Label.{LabelTree, trees}
use Rattle.hoa_lexer.specs.declared.token.Token.{Token}
use Rattle.hoa_parser.specs.Phrases.{Label, Lands, Lnot, Lnots, raw_conjunction, disjunction, label_meaning, label_tokens, lands_meaning, lands_tokens}
use Rattle.hoa_parser.specs.Phrases.{lnot_meaning, lnot_tokens, lnots_meaning, lnots_tokens}
use Rattle.hoa_parser.specs.Phrases.Label.{label}
use Rattle.hoa_parser.specs.Phrases.Lands.{no_land, or_land}
use Rattle.hoa_parser.specs.Phrases.Lnots.{no_lnot, and_lnot}
use Rattle.hoa_parser.specs.Phrases.Lnot.{true_label, false_label, proposition, negated}
use Rattle.hoa_parser.specs.Raw.{RawTree, raw_trees}
use Rattle.aut_base.specs.CanonicalLabel.{Literal, cubes, is_independent}
use Rattle.aut_base.specs.LabelText.{joined, literal_text, cubes_text, label_text}
use Rattle.aut_base.specs.Valuation.{truth_on}
use Rattle.aut_base.specs.CanonicalLabel.{literal_tree, all_of, one_of, canonical_label}
use Rattle.hoa_writer.specs.CanonicalWritten.{written_label, written_labels}
use Rattle.hoa_writer.proofs.spelling.SpelledOut.{Held, free_held, held_held, held_identifier, held_ended}
use Rattle.hoa_writer.proofs.spelling.WordsSpelled.{number, bang, amp, bar_apart}

-- the phrase of cubes

abbrev literal_lnot : Literal → Lnot
literal_lnot l = cond l.holds (proposition l.prop) (negated (proposition l.prop))

abbrev literal_lnots : List Literal → Lnots
literal_lnots [] = no_lnot
literal_lnots (l ∷ ls) = and_lnot (literal_lnot l) (literal_lnots ls)

abbrev cubes_lands : List (List Literal) → Lands
cubes_lands [] = no_land
cubes_lands ([] ∷ cs) = or_land true_label no_lnot (cubes_lands cs)
cubes_lands ((l ∷ ls) ∷ cs) = or_land (literal_lnot l) (literal_lnots ls) (cubes_lands cs)

abbrev pub cubes_label : List (List Literal) → Label
cubes_label [] = label false_label no_lnot no_land
cubes_label ([] ∷ cs) = label true_label no_lnot (cubes_lands cs)
cubes_label ((l ∷ ls) ∷ cs) = label (literal_lnot l) (literal_lnots ls) (cubes_lands cs)

-- what it means

abbrev cube_tree : List Literal → LabelTree
cube_tree cube = all_of (map literal_tree cube)

literal_means : (l : Literal) → lnot_meaning (literal_lnot l) ≡ written_label (literal_tree l)
literal_means l = elim l.holds as (λ b. lnot_meaning (literal_lnot (record { prop = l.prop; holds = b })) ≡ written_label (literal_tree (record { prop = l.prop; holds = b }))) [
  | true ↦ refl
  | false ↦ refl
]

literals_mean : (ls : List Literal) → raw_trees (lnots_meaning (literal_lnots ls)) ≡ written_labels (trees (map literal_tree ls))
literals_mean [] = refl
literals_mean (l ∷ ls) =
    let first = literal_means l in
    let others = literals_mean ls in
    cc

cube_means : (l : Literal) (ls : List Literal) → raw_conjunction (lnot_meaning (literal_lnot l)) (lnots_meaning (literal_lnots ls)) ≡ written_label (cube_tree (l ∷ ls))
cube_means l [] = literal_means l
cube_means l (m ∷ ms) =
    let first = literal_means l in
    let second = literal_means m in
    let others = literals_mean ms in
    cc

lands_mean : (cs : List (List Literal)) → raw_trees (lands_meaning (cubes_lands cs)) ≡ written_labels (trees (map cube_tree cs))
lands_mean [] = refl
lands_mean ([] ∷ cs) = let others = lands_mean cs in cc
lands_mean ((l ∷ ls) ∷ cs) =
    let first = cube_means l ls in
    let others = lands_mean cs in
    cc

-- a cube, and others
some_mean : (t : RawTree) (u : LabelTree) (cs : List (List Literal)) → t ≡ written_label u → disjunction t (lands_meaning (cubes_lands cs)) ≡ written_label (one_of (u ∷ map cube_tree cs))
some_mean t u [] e = e
some_mean t u ([] ∷ cs) e = let others = lands_mean cs in cc
some_mean t u ((l ∷ ls) ∷ cs) e =
    let first = cube_means l ls in
    let others = lands_mean cs in
    cc

pub cubes_mean : (cs : List (List Literal)) → label_meaning (cubes_label cs) ≡ written_label (one_of (map cube_tree cs))
cubes_mean [] = refl
cubes_mean ([] ∷ cs) = some_mean _ (cube_tree []) cs refl
cubes_mean ((l ∷ ls) ∷ cs) = some_mean _ (cube_tree (l ∷ ls)) cs (cube_means l ls)

-- the cubes of a truth function: each has literals, and their propositions are below m

abbrev AreBelow : ℕ → List Literal → Type 0
AreBelow m [] = Unit {0}
AreBelow m (l ∷ ls) = (l.prop < m) × AreBelow m ls

abbrev AreCubes : ℕ → List (List Literal) → Type 0
AreCubes m [] = Unit {0}
AreCubes m ([] ∷ cs) = ⊥
AreCubes m ((l ∷ ls) ∷ cs) = (l.prop < m) × AreBelow m ls × AreCubes m cs

-- or a single empty cube
abbrev AreTidy : ℕ → List (List Literal) → Type 0
AreTidy m cs = (cs ≡ [] ∷ []) ⊎ AreCubes m cs

under_all : (m : ℕ) (l : Literal) (cs : List (List Literal)) → l.prop < m → AreCubes m cs → AreCubes m (map (λ cube. l ∷ cube) cs)
under_all m l [] h k = tt
under_all m l ([] ∷ cs) h k = absurd k
under_all m l ((k ∷ ks) ∷ cs) h w = (h, (w.0, w.1), under_all m l cs h w.2)

under : (m : ℕ) (l : Literal) (cs : List (List Literal)) → l.prop < m → AreTidy m cs → AreCubes m (map (λ cube. l ∷ cube) cs)
under m l cs h (inl e) = subst (λ (ds : List (List Literal)). AreCubes m (map (λ cube. l ∷ cube) ds)) (sym e) (h, tt, tt)
under m l cs h (inr k) = under_all m l cs h k

cubes-append : (m : ℕ) (cs ds : List (List Literal)) → AreCubes m cs → AreCubes m ds → AreCubes m (cs ++ ds)
cubes-append m [] ds h k = k
cubes-append m ([] ∷ cs) ds h k = absurd h
cubes-append m ((l ∷ ls) ∷ cs) ds h k = (h.0, h.1, cubes-append m cs ds h.2 k)

cubes_tidy : (m i n : ℕ) (g : List Bool → Bool) → i + n ≤ m → AreTidy m (cubes i n g)
cubes_tidy m i zero g h = elim (g []) as (λ b. AreTidy m (cond b ([] ∷ []) [])) [ true ↦ inl refl | false ↦ inr tt ]
cubes_tidy m i (suc n) g h =
    let low = cubes (i + 1) n (λ v. g (false ∷ v)) in
    let high = cubes (i + 1) n (λ v. g (true ∷ v)) in
    let fails : Literal = record { prop = i; holds = false } in
    let holds : Literal = record { prop = i; holds = true } in
    let first : AreTidy m low = cubes_tidy m (i + 1) n (λ v. g (false ∷ v)) (omega arith) in
    let second : AreTidy m high = cubes_tidy m (i + 1) n (λ v. g (true ∷ v)) (omega arith) in
    let l : i < m = omega arith in
    elim (is_independent n g) as (λ b. AreTidy m (cond b low (map (λ cube. fails ∷ cube) low ++ map (λ cube. holds ∷ cube) high))) [
      | true ↦ first
      | false ↦ inr (cubes-append m (map (λ cube. fails ∷ cube) low) (map (λ cube. holds ∷ cube) high) (under m fails low l first) (under m holds high l second))
    ]

-- how they are spelled

literal_spelled : (l : Literal) → l.prop < 2 ^ 32 → Held (lnot_tokens (literal_lnot l)) (literal_text l)
literal_spelled l h = elim l.holds as (λ b. Held (lnot_tokens (literal_lnot (record { prop = l.prop; holds = b }))) (literal_text (record { prop = l.prop; holds = b }))) [
  | true ↦ number l.prop h
  | false ↦ free_held bang (number l.prop h)
]

cube_spelled : (m : ℕ) (l : Literal) (ls : List Literal) → m ≤ 2 ^ 32 → l.prop < m → AreBelow m ls
    → Held (lnot_tokens (literal_lnot l) ++ lnots_tokens (literal_lnots ls)) (joined (codes "&") (map literal_text (l ∷ ls)))
cube_spelled m l [] b h k = held_ended (literal_spelled l (omega arith))
cube_spelled m l (o ∷ os) b h k = held_held (literal_spelled l (omega arith)) (λ rest s. (refl, refl)) (free_held amp (cube_spelled m o os b k.0 k.1))

regroup : (a b c : List Token) {text : List ℕ} → Held ((a ++ b) ++ c) text → Held (a ++ (b ++ c)) text
regroup a b c {text} h = subst (λ (us : List Token). Held us text) (append_assoc a b c) h

lands_spelled : (m : ℕ) (l : Literal) (ls : List Literal) (cs : List (List Literal)) → m ≤ 2 ^ 32 → l.prop < m → AreBelow m ls → AreCubes m cs
    → Held (lnot_tokens (literal_lnot l) ++ (lnots_tokens (literal_lnots ls) ++ lands_tokens (cubes_lands cs))) (cubes_text ((l ∷ ls) ∷ cs))
lands_spelled m l ls [] b h k w =
    subst (λ (us : List Token). Held (lnot_tokens (literal_lnot l) ++ us) (joined (codes "&") (map literal_text (l ∷ ls))))
    (sym (append-nil (lnots_tokens (literal_lnots ls)))) (cube_spelled m l ls b h k)
lands_spelled m l ls ([] ∷ cs) b h k w = absurd w
lands_spelled m l ls ((o ∷ os) ∷ cs) b h k w =
    regroup (lnot_tokens (literal_lnot l)) (lnots_tokens (literal_lnots ls)) (lands_tokens (cubes_lands ((o ∷ os) ∷ cs)))
    (held_held (cube_spelled m l ls b h k) (λ rest s. (refl, refl)) (free_held bar_apart (lands_spelled m o os cs b w.0 w.1 w.2)))

tidy_spelled : (m : ℕ) (cs : List (List Literal)) → m ≤ 2 ^ 32 → AreTidy m cs → Held (label_tokens (cubes_label cs)) (cubes_text cs)
tidy_spelled m cs b (inl e) = subst (λ (ds : List (List Literal)). Held (label_tokens (cubes_label ds)) (cubes_text ds)) (sym e) (held_identifier (codes "t") (refl, refl))
tidy_spelled m [] b (inr k) = held_identifier (codes "f") (refl, refl)
tidy_spelled m ([] ∷ cs) b (inr k) = absurd k
tidy_spelled m ((l ∷ ls) ∷ cs) b (inr k) = lands_spelled m l ls cs b k.0 k.1 k.2

-- the phrase of a label's canonical form over n propositions
abbrev pub text_label : ℕ → LabelTree → Label
text_label n t = cubes_label (cubes 0 n (truth_on t))

pub text_label_means : (n : ℕ) (t : LabelTree) → label_meaning (text_label n t) ≡ written_label (canonical_label n t)
text_label_means n t = cubes_mean (cubes 0 n (truth_on t))

pub label_spelled : (n : ℕ) (t : LabelTree) → n ≤ 2 ^ 32 → Held (label_tokens (text_label n t)) (label_text n t)
label_spelled n t l = tidy_spelled n (cubes 0 n (truth_on t)) l (cubes_tidy n 0 n (truth_on t) (omega arith))
