-- A label that is written down opens no more than any other label that means the same.
use Rattle.std.proofs.Common.{ℕ, suc, ◌≤◌, arith}
use Rattle.hoa_parser.specs.Phrases.{Label, LabelWithin, Lands, LandsWithin, Lnot, LnotWithin, Lnots, LnotsWithin, raw_conjunction, label_meaning, lands_meaning, lnot_meaning, lnots_meaning}
use Rattle.hoa_parser.specs.Phrases.Label.{label}
use Rattle.hoa_parser.specs.Phrases.Lands.{no_land, or_land}
use Rattle.hoa_parser.specs.Phrases.Lnots.{no_lnot, and_lnot}
use Rattle.hoa_parser.specs.Phrases.Lnot.{negated, group}
use Rattle.hoa_parser.specs.Raw as raw
use Rattle.hoa_parser.specs.Raw.{RawTree, RawTrees, raw_trees}
use Rattle.hoa_parser.proofs.grammar.PlainLabels.{plain_lnot, plain_first, plain_others, plain_lnots, plain_lands, plain_label}

-- where more may be open, or fewer are open around it

mutual
  pub label_laxer : (m n d e : ℕ) (l : Label) → m ≤ n → e ≤ d → LabelWithin m d l → LabelWithin n e l
  label_laxer m n d e (label f fs ls) j k h = (lnot_laxer m n d e f j k h.0, lnots_laxer m n d e fs j k h.1, lands_laxer m n d e ls j k h.2)

  lands_laxer : (m n d e : ℕ) (ls : Lands) → m ≤ n → e ≤ d → LandsWithin m d ls → LandsWithin n e ls
  lands_laxer m n d e no_land j k h = tt
  lands_laxer m n d e (or_land f fs ls) j k h = (lnot_laxer m n d e f j k h.0, lnots_laxer m n d e fs j k h.1, lands_laxer m n d e ls j k h.2)

  lnots_laxer : (m n d e : ℕ) (fs : Lnots) → m ≤ n → e ≤ d → LnotsWithin m d fs → LnotsWithin n e fs
  lnots_laxer m n d e no_lnot j k h = tt
  lnots_laxer m n d e (and_lnot f fs) j k h = (lnot_laxer m n d e f j k h.0, lnots_laxer m n d e fs j k h.1)

  lnot_laxer : (m n d e : ℕ) (f : Lnot) → m ≤ n → e ≤ d → LnotWithin m d f → LnotWithin n e f
  lnot_laxer m n d e (negated f) j k h = (omega (arith, j, k, h.0), lnot_laxer m n (suc d) (suc e) f j (omega (arith, k)) h.1)
  lnot_laxer m n d e (group l) j k h = (omega (arith, j, k, h.0), label_laxer m n (suc d) (suc e) l j (omega (arith, k)) h.1)
  lnot_laxer m n d e _ j k h = tt

-- what is within between `&` is within alone, and between `|`

alone_within : (m d : ℕ) (t : RawTree) → LnotWithin m d (plain_lnot t) → LabelWithin m d (plain_label t)
alone_within m d (raw.And t u ts) h = label_laxer m m (suc d) d (plain_label (raw.And t u ts)) (omega arith) (omega arith) h.1
alone_within m d (raw.Or t u ts) h = label_laxer m m (suc d) d (plain_label (raw.Or t u ts)) (omega arith) (omega arith) h.1
alone_within m d _ h = (h, tt, tt)

abbrev LandWithin : ℕ → ℕ → RawTree → Type 0
LandWithin m d t = LnotWithin m d (plain_first t) × LnotsWithin m d (plain_others t)

land_within : (m d : ℕ) (t : RawTree) → LnotWithin m d (plain_lnot t) → LandWithin m d t
land_within m d (raw.And t u ts) h =
    let l = label_laxer m m (suc d) d (plain_label (raw.And t u ts)) (omega arith) (omega arith) h.1 in
    (l.0, l.1)
land_within m d _ h = (h, tt)

-- what is within alone, behind one more `(`, is within between `&`
grouped_within : (m d : ℕ) (t : RawTree) → suc d ≤ m → LabelWithin m (suc d) (plain_label t) → LnotWithin m d (plain_lnot t)
grouped_within m d (raw.Not t) k h = lnot_laxer m m (suc d) d (plain_lnot (raw.Not t)) (omega arith) (omega arith) h.0
grouped_within m d (raw.And t u ts) k h = (k, h)
grouped_within m d (raw.Or t u ts) k h = (k, h)
grouped_within m d _ k h = h.0

-- the parts of a conjunction
chain_within : (m d : ℕ) (f : Lnot) (fs : Lnots) → LnotWithin m d (plain_lnot (lnot_meaning f)) → LnotsWithin m d (plain_lnots (raw_trees (lnots_meaning fs)))
    → LandWithin m d (raw_conjunction (lnot_meaning f) (lnots_meaning fs))
chain_within m d f no_lnot h k = land_within m d (lnot_meaning f) h
chain_within m d f (and_lnot g gs) h k = (h, k)

-- the parts of a disjunction
chains_within : (m d : ℕ) (f : Lnot) (fs : Lnots) (ls : Lands) → LnotWithin m d (plain_lnot (lnot_meaning f)) → LnotsWithin m d (plain_lnots (raw_trees (lnots_meaning fs)))
    → LandsWithin m d (plain_lands (raw_trees (lands_meaning ls))) → LabelWithin m d (plain_label (label_meaning (label f fs ls)))
chains_within m d f no_lnot no_land h k l = alone_within m d (lnot_meaning f) h
chains_within m d f (and_lnot g gs) no_land h k l = (h, k, tt)
chains_within m d f fs (or_land g gs ls) h k l = let first = chain_within m d f fs h k in (first.0, first.1, l)

mutual
  pub plain_within : (m d : ℕ) (l : Label) → LabelWithin m d l → LabelWithin m d (plain_label (label_meaning l))
  plain_within m d (label f fs ls) h = chains_within m d f fs ls (lnot_within m d f h.0) (lnots_within m d fs h.1) (lands_within m d ls h.2)

  lands_within : (m d : ℕ) (ls : Lands) → LandsWithin m d ls → LandsWithin m d (plain_lands (raw_trees (lands_meaning ls)))
  lands_within m d no_land h = tt
  lands_within m d (or_land f fs ls) h =
      let first = chain_within m d f fs (lnot_within m d f h.0) (lnots_within m d fs h.1) in
      (first.0, first.1, lands_within m d ls h.2)

  lnots_within : (m d : ℕ) (fs : Lnots) → LnotsWithin m d fs → LnotsWithin m d (plain_lnots (raw_trees (lnots_meaning fs)))
  lnots_within m d no_lnot h = tt
  lnots_within m d (and_lnot f fs) h = (lnot_within m d f h.0, lnots_within m d fs h.1)

  lnot_within : (m d : ℕ) (f : Lnot) → LnotWithin m d f → LnotWithin m d (plain_lnot (lnot_meaning f))
  lnot_within m d (negated f) h = (h.0, lnot_within m (suc d) f h.1)
  lnot_within m d (group l) h = grouped_within m d (label_meaning l) h.0 (plain_within m (suc d) l h.1)
  lnot_within m d _ h = tt
