-- What aliases stand for, as one more is defined.
use Rattle.std.proofs.Common.{◌≡◌, ◌≤◌, ◌-◌, ◌^◌, ℕ, Bool, true, false, cond, ◌&&◌, ◌||◌, List, [], ◌∷◌, ◌++◌, map, find, Option, Some, None, is_some, refl, sym, ap, ◌∙◌, subst, arith}
use Rattle.std.proofs.lemmas.Bool.{false≢true, or_left, and_parts}
use Rattle.std.proofs.lemmas.Bool.Decides.{Decides-eqb}
use Rattle.std.proofs.lemmas.Slice.Eq.{slice_eq-Decides}
use Rattle.std.specs.Bool.{Decides}
use Rattle.std.proofs.lemmas.List.{append-nil, append_assoc, map-append}
use Rattle.std.proofs.lemmas.List.Folds.{list_any-append}
use Rattle.std.specs.Map.{update}
use Rattle.std.specs.Option.{option_map_or}
use Rattle.aut_base.specs.Label as label
use Rattle.aut_base.specs.Label.{LabelTree, LabelTrees, label_size, labels_size}
use Rattle.hoa_reader.specs.Counts.{greatest_height, height}
use Rattle.hoa_reader.specs.Described.{Meaning, each_expanded, expanded, meanings_after}
use Rattle.hoa_reader.specs.inner.Growing.{AreAliasesKnown, IsKnownAs, IsKnownBy, alias_name, cap, capped_height, capped_heights, capped_size, capped_sizes}
use Rattle.hoa_reader.specs.inner.Growing.{known_height, known_size, meaning_names, meanings_by}
use Rattle.hoa_reader.specs.inner.PickedOut.{alias_def, line_names}
use Rattle.hoa_reader.specs.inner.Places.{is_listed, place_in}
use Rattle.hoa_parser.specs.Raw as raw
use Rattle.hoa_parser.specs.Raw.{RawTree, RawTrees, raw_tree}
use Rattle.aut_base.specs.Text.{same_text}
use Rattle.hoa_reader.specs.Validity.{AliasLine, aliases_among, all_leaves_pass, leaves_pass}
use Rattle.hoa_reader.specs.declared.elaborate.aliases.Known.{Known}
use Rattle.hoa_reader.specs.declared.elaborate.parts.AliasDef.{AliasDef}
use Rattle.hoa_reader.specs.declared.elaborate.places.Places.{Places}

-- texts are the same where they are equal
pub same_texts : (a b : List ℕ) → Decides (same_text a b) (a ≡ b)
same_texts a b = slice_eq-Decides Decides-eqb a b (same_text a b) refl

pub names_after : (ms : List Meaning) (lines : List AliasLine) → meaning_names (meanings_after ms lines) ≡ meaning_names ms ++ line_names lines
names_after ms [] = sym (append-nil (meaning_names ms))
names_after ms (line ∷ lines) =
    let m : Meaning = record { name = line.name; label = expanded ms line.label } in
    names_after (ms ++ m ∷ []) lines
    ∙ ap (λ ns. ns ++ line_names lines) (map-append (λ (m : Meaning). m.name) ms (m ∷ []))
    ∙ append_assoc (meaning_names ms) (line.name ∷ []) (line_names lines)

-- what the alias stands for
abbrev pub meaning_of : List Meaning → List ℕ → LabelTree
meaning_of ms name = expanded ms (raw.Alias name)

-- the label that was found
abbrev told : Option Meaning → LabelTree
told o = option_map_or (λ (m : Meaning). m.label) o label.False

missing_if : (b a : Bool) (m : Meaning) (o : Option Meaning) → (b || a) ≡ false → (a ≡ false → told o ≡ label.False) → told (cond b (Some m) o) ≡ label.False
missing_if true a m o e h = absurd (false≢true (sym e))
missing_if false a m o e h = h e

pub meaning_missing : (ms : List Meaning) (q : List ℕ) → is_listed (meaning_names ms) q ≡ false → meaning_of ms q ≡ label.False
meaning_missing [] q e = refl
meaning_missing (m ∷ ms) q e = missing_if (same_text m.name q) (is_listed (meaning_names ms) q) m (find (λ (m : Meaning). same_text m.name q) ms) e (meaning_missing ms q)

old_if : (b a : Bool) (m : Meaning) (o p : Option Meaning) → (b || a) ≡ true → (a ≡ true → told o ≡ told p) → told (cond b (Some m) o) ≡ told (cond b (Some m) p)
old_if true a m o p e h = refl
old_if false a m o p e h = h e

pub meaning_push_old : (ms : List Meaning) (m : Meaning) (q : List ℕ) → is_listed (meaning_names ms) q ≡ true → meaning_of (ms ++ m ∷ []) q ≡ meaning_of ms q
meaning_push_old [] m q e = absurd (false≢true e)
meaning_push_old (x ∷ ms) m q e =
    let p : Meaning → Bool = λ m. same_text m.name q in
    old_if (same_text x.name q) (is_listed (meaning_names ms) q) x (find p (ms ++ m ∷ [])) (find p ms) e (meaning_push_old ms m q)

new_if : (b a : Bool) (m x : Meaning) (o : Option Meaning) → (b || a) ≡ false → (a ≡ false → told o ≡ m.label) → told (cond b (Some x) o) ≡ m.label
new_if true a m x o e h = absurd (false≢true (sym e))
new_if false a m x o e h = h e

pub meaning_push_new : (ms : List Meaning) (m : Meaning) (q : List ℕ) → is_listed (meaning_names ms) q ≡ false → same_text m.name q ≡ true → meaning_of (ms ++ m ∷ []) q ≡ m.label
meaning_push_new [] m q e s = ap (λ b. told (cond b (Some m) None)) s
meaning_push_new (x ∷ ms) m q e s =
    new_if (same_text x.name q) (is_listed (meaning_names ms) q) m x (find (λ (m : Meaning). same_text m.name q) (ms ++ m ∷ [])) e (λ h. meaning_push_new ms m q h s)

pub listed_push : (ms : List Meaning) (m : Meaning) (q : List ℕ) → is_listed (meaning_names (ms ++ m ∷ [])) q ≡ (is_listed (meaning_names ms) q || (same_text m.name q || false))
listed_push ms m q = ap (λ ns. is_listed ns q) (map-append (λ (m : Meaning). m.name) ms (m ∷ [])) ∙ list_any-append (λ other. same_text other q) (meaning_names ms) (m.name ∷ [])

-- one more alias changes no label that doesn't use it
mutual
  pub expanded_push : (ms : List Meaning) (m : Meaning) (t : RawTree) → aliases_among (meaning_names ms) t ≡ true → expanded (ms ++ m ∷ []) t ≡ expanded ms t
  expanded_push ms m raw.True e = refl
  expanded_push ms m raw.False e = refl
  expanded_push ms m (raw.Prop i) e = refl
  expanded_push ms m (raw.Alias name) e = meaning_push_old ms m name e
  expanded_push ms m (raw.Not t) e = ap label.Not (expanded_push ms m t e)
  expanded_push ms m (raw.And a b cs) e =
      let first = and_parts _ _ e in let second = and_parts _ _ first.1 in
      let p = expanded_push ms m a first.0 in let q = expanded_push ms m b second.0 in let r = each_expanded_push ms m cs second.1 in
      ap (λ x. label.And x (expanded (ms ++ m ∷ []) b) (each_expanded (ms ++ m ∷ []) cs)) p ∙ ap (λ x. label.And (expanded ms a) x (each_expanded (ms ++ m ∷ []) cs)) q
      ∙ ap (λ x. label.And (expanded ms a) (expanded ms b) x) r
  expanded_push ms m (raw.Or a b cs) e =
      let first = and_parts _ _ e in let second = and_parts _ _ first.1 in
      let p = expanded_push ms m a first.0 in let q = expanded_push ms m b second.0 in let r = each_expanded_push ms m cs second.1 in
      ap (λ x. label.Or x (expanded (ms ++ m ∷ []) b) (each_expanded (ms ++ m ∷ []) cs)) p ∙ ap (λ x. label.Or (expanded ms a) x (each_expanded (ms ++ m ∷ []) cs)) q
      ∙ ap (λ x. label.Or (expanded ms a) (expanded ms b) x) r

  each_expanded_push : (ms : List Meaning) (m : Meaning) (ts : RawTrees) → all_leaves_pass (λ i. true) (is_listed (meaning_names ms)) ts ≡ true → each_expanded (ms ++ m ∷ []) ts ≡ each_expanded ms ts
  each_expanded_push ms m raw.none e = refl
  each_expanded_push ms m (raw.more t ts) e =
      let parts = and_parts _ _ e in
      ap (λ x. LabelTrees.more x (each_expanded (ms ++ m ∷ []) ts)) (expanded_push ms m t parts.0) ∙ ap (LabelTrees.more (expanded ms t)) (each_expanded_push ms m ts parts.1)

together : (x y z w : Bool) → (x ≡ true → z ≡ true) → (y ≡ true → w ≡ true) → (x && y) ≡ true → (z && w) ≡ true
together x y z w p q e = let parts = and_parts x y e in ap (λ b. b && w) (p parts.0) ∙ q parts.1

-- what passes a test passes a weaker one
mutual
  pub leaves_weaker : (f g : List ℕ → Bool) → ((name : List ℕ) → f name ≡ true → g name ≡ true) → (t : RawTree) → leaves_pass (λ i. true) f t ≡ true → leaves_pass (λ i. true) g t ≡ true
  leaves_weaker f g h raw.True e = refl
  leaves_weaker f g h raw.False e = refl
  leaves_weaker f g h (raw.Prop i) e = refl
  leaves_weaker f g h (raw.Alias name) e = h name e
  leaves_weaker f g h (raw.Not t) e = leaves_weaker f g h t e
  leaves_weaker f g h (raw.And a b cs) e = together _ _ _ _ (leaves_weaker f g h a) (together _ _ _ _ (leaves_weaker f g h b) (all_leaves_weaker f g h cs)) e
  leaves_weaker f g h (raw.Or a b cs) e = together _ _ _ _ (leaves_weaker f g h a) (together _ _ _ _ (leaves_weaker f g h b) (all_leaves_weaker f g h cs)) e

  all_leaves_weaker : (f g : List ℕ → Bool) → ((name : List ℕ) → f name ≡ true → g name ≡ true) → (ts : RawTrees) → all_leaves_pass (λ i. true) f ts ≡ true → all_leaves_pass (λ i. true) g ts ≡ true
  all_leaves_weaker f g h raw.none e = refl
  all_leaves_weaker f g h (raw.more t ts) e = together _ _ _ _ (leaves_weaker f g h t) (all_leaves_weaker f g h ts) e

known_more : (ms : List Meaning) (m : Meaning) (defs : List AliasDef) (meaning : LabelTree) (k : Known) → IsKnownAs ms defs meaning k → IsKnownAs (ms ++ m ∷ []) defs meaning k
known_more ms m defs meaning k h = record {
  def = h.def;
  there = h.there;
  same = h.same ∙ sym (expanded_push ms m (raw_tree h.def.label.now) h.among);
  plain = h.plain;
  among =
      leaves_weaker (is_listed (meaning_names ms)) (is_listed (meaning_names (ms ++ m ∷ []))) (λ q e. listed_push ms m q ∙ or_left (is_listed (meaning_names ms) q) (same_text m.name q || false) e)
      (raw_tree h.def.label.now) h.among;
  height = h.height;
  size = h.size;
}

right_or : (a : Bool) → (a || (true || false)) ≡ true
right_or true = refl
right_or false = refl

kept_known : (ms : List Meaning) (m : Meaning) (defs : List AliasDef) (q : List ℕ) (o : Option Known) → same_text m.name q ≡ false → IsKnownBy ms defs q o → IsKnownBy (ms ++ m ∷ []) defs q o
kept_known ms m defs q None s h = listed_push ms m q ∙ ap (λ b. b || (same_text m.name q || false)) h ∙ ap (λ b. b || false) s
kept_known ms m defs q (Some k) s h =
    let M : LabelTree → Type 0 = λ t. IsKnownAs (ms ++ m ∷ []) defs t k in
    record {
      listed = listed_push ms m q ∙ or_left (is_listed (meaning_names ms) q) (same_text m.name q || false) h.listed;
      known = subst M (sym (meaning_push_old ms m q h.listed)) (known_more ms m defs (meaning_of ms q) k h.known);
    }

new_known : (ms : List Meaning) (m : Meaning) (defs : List AliasDef) (q : List ℕ) (k : Known) → same_text m.name q ≡ true → is_listed (meaning_names ms) m.name ≡ false
    → IsKnownAs ms defs m.label k → IsKnownBy (ms ++ m ∷ []) defs q (Some k)
new_known ms m defs q k s away h =
    let M : LabelTree → Type 0 = λ t. IsKnownAs (ms ++ m ∷ []) defs t k in
    let gone : is_listed (meaning_names ms) q ≡ false = ap (is_listed (meaning_names ms)) (sym ((same_texts m.name q).0 s)) ∙ away in
    record {
      listed = listed_push ms m q ∙ ap (λ b. is_listed (meaning_names ms) q || (b || false)) s ∙ right_or (is_listed (meaning_names ms) q);
      known = subst M (sym (meaning_push_new ms m q gone s)) (known_more ms m defs m.label k h);
    }

one_known : (ms : List Meaning) (m : Meaning) (defs : List AliasDef) (q : List ℕ) (k : Known) (o : Option Known) (b : Bool) → same_text m.name q ≡ b
    → is_listed (meaning_names ms) m.name ≡ false → IsKnownAs ms defs m.label k → IsKnownBy ms defs q o → IsKnownBy (ms ++ m ∷ []) defs q (cond b (Some k) o)
one_known ms m defs q k o true s away h before = new_known ms m defs q k s away h
one_known ms m defs q k o false s away h before = kept_known ms m defs q o s before

-- one more alias is known
pub known_push : (ms : List Meaning) (m : Meaning) (defs : List AliasDef) (old new : Places Known) (k : Known) → AreAliasesKnown ms defs old → is_listed (meaning_names ms) m.name ≡ false
    → IsKnownAs ms defs m.label k → ((q : List ℕ) → place_in new q ≡ update same_text (place_in old) m.name (Some k) q) → AreAliasesKnown (ms ++ m ∷ []) defs new
known_push ms m defs old new k before away h changed = λ q.
    let P : Option Known → Type 0 = λ o. IsKnownBy (ms ++ m ∷ []) defs q o in
    subst P (sym (changed q)) (one_known ms m defs q k (place_in old q) (same_text m.name q) refl away h (before q))

listed_by : (ms : List Meaning) (defs : List AliasDef) (q : List ℕ) (o : Option Known) → IsKnownBy ms defs q o → is_some o ≡ is_listed (meaning_names ms) q
listed_by ms defs q None h = sym h
listed_by ms defs q (Some k) h = sym h.listed

pub known_listed : (ms : List Meaning) (defs : List AliasDef) (known : Places Known) → AreAliasesKnown ms defs known → (q : List ℕ) → is_some (place_in known q) ≡ is_listed (meaning_names ms) q
known_listed ms defs known all q = listed_by ms defs q (place_in known q) (all q)

height_by : (ms : List Meaning) (defs : List AliasDef) (q : List ℕ) (o : Option Known) → IsKnownBy ms defs q o → known_height o ≡ cap (height (meaning_of ms q))
height_by ms defs q None h = ap (λ t. cap (height t)) (sym (meaning_missing ms q h))
height_by ms defs q (Some k) h = h.known.height

size_by : (ms : List Meaning) (defs : List AliasDef) (q : List ℕ) (o : Option Known) → IsKnownBy ms defs q o → known_size o ≡ cap (label_size (meaning_of ms q))
size_by ms defs q None h = ap (λ t. cap (label_size t)) (sym (meaning_missing ms q h))
size_by ms defs q (Some k) h = h.known.size

-- the height of a label, as far as a number goes
mutual
  height_law : (ms : List Meaning) (g : List ℕ → ℕ) → ((q : List ℕ) → g q ≡ cap (height (meaning_of ms q))) → (t : RawTree) → capped_height g t ≡ cap (height (expanded ms t))
  height_law ms g h raw.True = refl
  height_law ms g h raw.False = refl
  height_law ms g h (raw.Prop i) = refl
  height_law ms g h (raw.Alias name) = h name
  height_law ms g h (raw.Not t) = let p = height_law ms g h t in omega (arith, p)
  height_law ms g h (raw.And a b cs) = let p = height_law ms g h a in let q = height_law ms g h b in let r = heights_law ms g h cs in omega (arith, p, q, r)
  height_law ms g h (raw.Or a b cs) = let p = height_law ms g h a in let q = height_law ms g h b in let r = heights_law ms g h cs in omega (arith, p, q, r)

  heights_law : (ms : List Meaning) (g : List ℕ → ℕ) → ((q : List ℕ) → g q ≡ cap (height (meaning_of ms q))) → (ts : RawTrees) → capped_heights g ts ≡ cap (greatest_height (each_expanded ms ts))
  heights_law ms g h raw.none = refl
  heights_law ms g h (raw.more t ts) = let p = height_law ms g h t in let q = heights_law ms g h ts in omega (arith, p, q)

-- the size of a label, as far as a number goes
mutual
  size_law : (ms : List Meaning) (g : List ℕ → ℕ) → ((q : List ℕ) → g q ≡ cap (label_size (meaning_of ms q))) → (t : RawTree) → capped_size g t ≡ cap (label_size (expanded ms t))
  size_law ms g h raw.True = refl
  size_law ms g h raw.False = refl
  size_law ms g h (raw.Prop i) = refl
  size_law ms g h (raw.Alias name) = h name
  size_law ms g h (raw.Not t) = let p = size_law ms g h t in omega (arith, p)
  size_law ms g h (raw.And a b cs) = let p = size_law ms g h a in let q = size_law ms g h b in let r = sizes_law ms g h cs in omega (arith, p, q, r)
  size_law ms g h (raw.Or a b cs) = let p = size_law ms g h a in let q = size_law ms g h b in let r = sizes_law ms g h cs in omega (arith, p, q, r)

  sizes_law : (ms : List Meaning) (g : List ℕ → ℕ) → ((q : List ℕ) → g q ≡ cap (label_size (meaning_of ms q))) → (ts : RawTrees) → capped_sizes g ts ≡ cap (labels_size (each_expanded ms ts))
  sizes_law ms g h raw.none = refl
  sizes_law ms g h (raw.more t ts) = let p = size_law ms g h t in let q = sizes_law ms g h ts in omega (arith, p, q)

pub known_heights : (ms : List Meaning) (defs : List AliasDef) (known : Places Known) → AreAliasesKnown ms defs known → (t : RawTree)
    → capped_height (λ q. known_height (place_in known q)) t ≡ cap (height (expanded ms t))
known_heights ms defs known all = height_law ms (λ q. known_height (place_in known q)) (λ q. height_by ms defs q (place_in known q) (all q))

pub known_sizes : (ms : List Meaning) (defs : List AliasDef) (known : Places Known) → AreAliasesKnown ms defs known → (t : RawTree)
    → capped_size (λ q. known_size (place_in known q)) t ≡ cap (label_size (expanded ms t))
known_sizes ms defs known all = size_law ms (λ q. known_size (place_in known q)) (λ q. size_by ms defs q (place_in known q) (all q))

-- a label that is an alias
pub is_that_alias : (t : RawTree) (name : List ℕ) → alias_name t ≡ Some name → t ≡ raw.Alias name
is_that_alias raw.True name e = cc
is_that_alias raw.False name e = cc
is_that_alias (raw.Prop i) name e = cc
is_that_alias (raw.Alias n) name e = cc
is_that_alias (raw.Not t) name e = cc
is_that_alias (raw.And a b cs) name e = cc
is_that_alias (raw.Or a b cs) name e = cc

pub sizes_fit : (g : List ℕ → ℕ) (ts : RawTrees) → capped_sizes g ts ≤ 2 ^ 64 - 1
sizes_fit g raw.none = omega arith
sizes_fit g (raw.more t ts) = omega arith

-- the aliases before a place, where all are defined well
pub names_by : (defs : List AliasDef) → meaning_names (meanings_by defs) ≡ line_names (map alias_def defs)
names_by defs = names_after [] (map alias_def defs)
