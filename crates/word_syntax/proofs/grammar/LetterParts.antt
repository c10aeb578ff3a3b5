-- The tokens that the letter's parser has read are the beginning of a letter, by the grammar.
use Rattle.std.proofs.Common.{◌≡◌, ◌∙◌, ◌∷◌, ◌++◌, ◌+◌, ◌-◌, ◌<◌, ◌≤◌, Bool, List, Some, [], ap, arith, false, refl, slice_get, subst, suc, sym, true, zero, ℕ}
use Rattle.std.proofs.lemmas.Bool.{ltb-true}
use Rattle.std.proofs.lemmas.List.{append_assoc, append-nil}
use Rattle.std.proofs.lemmas.Option.{cond_some, none-some, same_Some}
use Rattle.aut_base.specs.declared.limit.TheConstants.{MOST_DEPTH}
use Rattle.aut_base.proofs.lists.Lists.{append_three}
use Rattle.aut_base.specs.CanonicalLabel.{all_of}
use Rattle.aut_base.specs.Label as label
use Rattle.aut_base.specs.Label.{LabelTree}
use Rattle.word_syntax.proofs.grammar.LetterRuns.{awaiting, ended, level}
use Rattle.word_syntax.proofs.grammar.FromLeft.{AreConjunctions, AreConjuncts, IsConjunction, IsLetter, IsOperand}
use Rattle.word_syntax.proofs.grammar.FromLeft.{alternative, always, either, group, joined, negated, never, no_conjunction, no_operand, operand, proposition}
use Rattle.word_syntax.specs.inner.Machine as machine
use Rattle.word_syntax.specs.inner.Machine.{LetterState, LevelTree, complete_level, fresh_level, may_nest, letter_step, level_label, nots_on}
use Rattle.word_syntax.specs.declared.token.Token.{Token}
use Rattle.word_syntax.specs.declared.token.Token.TheVariants as token

in_ands : (a b c d : List Token) → a ++ (b ++ (c ++ d)) ≡ a ++ ((b ++ (c ++ d)) ++ [])
in_ands a b c d = ap (λ (x : List Token). a ++ x) (sym (append-nil (b ++ (c ++ d))))

in_ors : (a b c d : List Token) → a ++ (b ++ (c ++ d)) ≡ (a ++ ((b ++ c) ++ d)) ++ ([] ++ [])
in_ors a b c d = ap (λ (x : List Token). a ++ x) (sym (append_assoc b c d)) ∙ sym (append-nil (a ++ ((b ++ c) ++ d)))

-- n times `!`
abbrev pub nots : ℕ → List Token
nots zero = []
nots (suc n) = token.Not ∷ nots n

nots_last : (n : ℕ) (w : List Token) → nots n ++ (token.Not ∷ w) ≡ token.Not ∷ (nots n ++ w)
nots_last zero w = refl
nots_last (suc n) w = ap (λ (x : List Token). token.Not ∷ x) (nots_last n w)

-- an operand with `!` before it
nots_wrap : (names : List (List ℕ)) (n room all : ℕ) (w : List Token) (t : LabelTree) → all ≡ room + n → IsOperand names room w t → IsOperand names all (nots n ++ w) (nots_on n t)
nots_wrap names zero room all w t e h = let same : room ≡ all = omega arith in subst (λ (r : ℕ). IsOperand names r w t) same h
nots_wrap names (suc n) room all w t e h =
    subst (λ (x : List Token). IsOperand names all x (nots_on n (label.Not t))) (nots_last n w) (nots_wrap names n (suc room) all (token.Not ∷ w) (label.Not t) (omega arith) (negated h))

-- the tokens of a level where an operand has to follow
pub record IsBegun (names : List (List ℕ)) (l : LevelTree) (w : List Token) : Type 0 where
  pub room : ℕ
  pub ors_tokens : List Token
  pub ands_tokens : List Token
  pub room_is : l.around + room ≡ MOST_DEPTH
  pub fits : l.nots ≤ room
  pub ors : AreConjunctions names room ors_tokens l.ors
  pub ands : AreConjuncts names room ands_tokens l.ands
  pub spelled : w ≡ ors_tokens ++ (ands_tokens ++ nots l.nots)

-- the tokens of a level where an operand has just ended
pub record IsEnded (names : List (List ℕ)) (l : LevelTree) (w : List Token) : Type 0 where
  pub room : ℕ
  pub ors_tokens : List Token
  pub ands_tokens : List Token
  pub last_tokens : List Token
  pub parts : List LabelTree
  pub last : LabelTree
  pub room_is : l.around + room ≡ MOST_DEPTH
  pub no_nots : l.nots ≡ 0
  pub ors : AreConjunctions names room ors_tokens l.ors
  pub ands : AreConjuncts names room ands_tokens parts
  pub operand : IsOperand names room last_tokens last
  pub all : l.ands ≡ parts ++ last ∷ []
  pub spelled : w ≡ ors_tokens ++ (ands_tokens ++ last_tokens)

-- the tokens before those of a level, where these are its outer levels
abbrev pub Surrounds : List (List ℕ) → List LevelTree → ℕ → List Token → Type 0
Surrounds names [] around w = (w ≡ []) × (around ≡ 0)
Surrounds names (l ∷ ls) around w =
    (v : List Token) × (u : List Token) × (w ≡ v ++ (u ++ token.LeftParen ∷ [])) × Surrounds names ls l.around v × IsBegun names l u × (around ≡ l.around + l.nots + 1) × (around ≤ MOST_DEPTH)

-- the tokens of the innermost level
abbrev pub IsLevel : List (List ℕ) → Bool → LevelTree → List Token → Type 0
IsLevel names false l w = IsBegun names l w
IsLevel names true l w = IsEnded names l w

-- the tokens of a letter as far as it is read
pub record IsPart (names : List (List ℕ)) (s : LetterState) (w : List Token) : Type 0 where
  pub outer_tokens : List Token
  pub level_tokens : List Token
  pub outer : Surrounds names s.outer s.level.around outer_tokens
  pub inner : IsLevel names s.ready s.level level_tokens
  pub spelled : w ≡ outer_tokens ++ level_tokens

-- the function has the index in the list of the name that the token is
abbrev pub Knows : (List ℕ → ℕ) → List (List ℕ) → Token → Type 0
Knows place names (token.Name name) = slice_get names (place name) ≡ Some name
Knows place names _ = Unit {0}

pub fresh_begun : (names : List (List ℕ)) (around room : ℕ) → around + room ≡ MOST_DEPTH → IsBegun names (fresh_level around) []
fresh_begun names around room e = record { room = room; ors_tokens = []; ands_tokens = []; room_is = e; fits = omega arith; ors = no_conjunction; ands = no_operand; spelled = refl }

-- an operand ends in a level
level_complete : (names : List (List ℕ)) (l : LevelTree) (u w : List Token) (t : LabelTree) → IsBegun names l u
    → ((room : ℕ) → l.around + l.nots + room ≡ MOST_DEPTH → IsOperand names room w t) → IsEnded names (complete_level l t) (u ++ w)
level_complete names l u w t begun one = record {
  room = begun.room;
  ors_tokens = begun.ors_tokens;
  ands_tokens = begun.ands_tokens;
  last_tokens = nots l.nots ++ w;
  parts = l.ands;
  last = nots_on l.nots t;
  room_is = begun.room_is;
  no_nots = refl;
  ors = begun.ors;
  ands = begun.ands;
  operand = nots_wrap names l.nots (begun.room - l.nots) begun.room w t (omega (arith, begun.fits)) (one (begun.room - l.nots) (omega (arith, begun.fits, begun.room_is)));
  all = refl;
  spelled = ap (λ (x : List Token). x ++ w) begun.spelled ∙ append_three begun.ors_tokens begun.ands_tokens (nots l.nots) w;
}

-- `!`
level_negated : (names : List (List ℕ)) (l : LevelTree) (u : List Token) → may_nest l ≡ true → IsBegun names l u → IsBegun names (level l.around l.ors l.ands (l.nots + 1)) (u ++ token.Not ∷ [])
level_negated names l u may begun =
    let one : l.nots + 1 ≡ suc l.nots = omega arith in
    let below : l.around + l.nots < MOST_DEPTH = ltb-true _ _ may in
    record {
      room = begun.room;
      ors_tokens = begun.ors_tokens;
      ands_tokens = begun.ands_tokens;
      room_is = begun.room_is;
      fits = omega (arith, begun.room_is);
      ors = begun.ors;
      ands = begun.ands;
      spelled = ap (λ (x : List Token). x ++ token.Not ∷ []) begun.spelled
          ∙ (append_three begun.ors_tokens begun.ands_tokens (nots l.nots) (token.Not ∷ [])
          ∙ ap (λ (x : List Token). begun.ors_tokens ++ (begun.ands_tokens ++ x)) (nots_last l.nots [] ∙ (ap (λ (x : List Token). token.Not ∷ x) (append-nil (nots l.nots)) ∙ ap nots (sym one))));
    }

-- a complete conjunction
level_conjunction : (names : List (List ℕ)) (l : LevelTree) (u : List Token) (e : IsEnded names l u) → IsConjunction names e.room (e.ands_tokens ++ e.last_tokens) (all_of l.ands)
level_conjunction names l u e = joined e.ands e.operand refl (ap all_of e.all)

-- `&`
level_anded : (names : List (List ℕ)) (l : LevelTree) (u : List Token) → IsEnded names l u → IsBegun names l (u ++ token.And ∷ [])
level_anded names l u e = record {
  room = e.room;
  ors_tokens = e.ors_tokens;
  ands_tokens = e.ands_tokens ++ (e.last_tokens ++ token.And ∷ []);
  room_is = e.room_is;
  fits = omega (arith, e.no_nots);
  ors = e.ors;
  ands = operand e.ands e.operand refl e.all;
  spelled = ap (λ (x : List Token). x ++ token.And ∷ []) e.spelled
      ∙ (append_three e.ors_tokens e.ands_tokens e.last_tokens (token.And ∷ [])
      ∙ (in_ands e.ors_tokens e.ands_tokens e.last_tokens (token.And ∷ []) ∙ ap (λ (n : ℕ). e.ors_tokens ++ ((e.ands_tokens ++ (e.last_tokens ++ token.And ∷ [])) ++ nots n)) (sym e.no_nots)));
}

-- `|`
level_ored : (names : List (List ℕ)) (l : LevelTree) (u : List Token) → IsEnded names l u → IsBegun names (machine.or_level l) (u ++ token.Or ∷ [])
level_ored names l u e = record {
  room = e.room;
  ors_tokens = e.ors_tokens ++ ((e.ands_tokens ++ e.last_tokens) ++ token.Or ∷ []);
  ands_tokens = [];
  room_is = e.room_is;
  fits = omega (arith, e.no_nots);
  ors = alternative e.ors (level_conjunction names l u e) refl refl;
  ands = no_operand;
  spelled = ap (λ (x : List Token). x ++ token.Or ∷ []) e.spelled
      ∙ (append_three e.ors_tokens e.ands_tokens e.last_tokens (token.Or ∷ [])
      ∙ (in_ors e.ors_tokens e.ands_tokens e.last_tokens (token.Or ∷ []) ∙ ap (λ (n : ℕ). (e.ors_tokens ++ ((e.ands_tokens ++ e.last_tokens) ++ token.Or ∷ [])) ++ ([] ++ nots n)) (sym e.no_nots)));
}

-- a complete level
pub level_letter : (names : List (List ℕ)) (l : LevelTree) (u : List Token) (e : IsEnded names l u) → IsLetter names e.room u (level_label l)
level_letter names l u e = either e.ors (level_conjunction names l u e) e.spelled refl

-- the steps of the letter's parser
part_operand : (names : List (List ℕ)) (o : List LevelTree) (l : LevelTree) (v w u : List Token) (t : LabelTree) → Surrounds names o l.around v → IsBegun names l u
    → ((room : ℕ) → l.around + l.nots + room ≡ MOST_DEPTH → IsOperand names room w t) → IsPart names (ended o (complete_level l t)) ((v ++ u) ++ w)
part_operand names o l v w u t outer begun one = record { outer_tokens = v; level_tokens = u ++ w; outer = outer; inner = level_complete names l u w t begun one; spelled = append_assoc v u w }

part_negated : (names : List (List ℕ)) (o : List LevelTree) (l : LevelTree) (s : LetterState) (v u : List Token) → Surrounds names o l.around v → IsBegun names l u
    → machine.maybe_negated (awaiting o l) ≡ Some s → IsPart names s ((v ++ u) ++ token.Not ∷ [])
part_negated names o l s v u outer begun step =
    let may = cond_some (may_nest l) (machine.negated (awaiting o l)) s step in
    subst (λ (x : LetterState). IsPart names x ((v ++ u) ++ token.Not ∷ [])) may.1
    (record { outer_tokens = v; level_tokens = u ++ token.Not ∷ []; outer = outer; inner = level_negated names l u may.0 begun; spelled = append_assoc v u (token.Not ∷ []) })

part_opened : (names : List (List ℕ)) (o : List LevelTree) (l : LevelTree) (s : LetterState) (v u : List Token) → Surrounds names o l.around v → IsBegun names l u
    → machine.maybe_opened (awaiting o l) ≡ Some s → IsPart names s ((v ++ u) ++ token.LeftParen ∷ [])
part_opened names o l s v u outer begun step =
    let may = cond_some (may_nest l) (machine.opened (awaiting o l)) s step in
    let below : l.around + l.nots < MOST_DEPTH = ltb-true _ _ may.0 in
    subst (λ (x : LetterState). IsPart names x ((v ++ u) ++ token.LeftParen ∷ [])) may.1 (record {
      outer_tokens = (v ++ u) ++ token.LeftParen ∷ [];
      level_tokens = [];
      outer = (v, u, append_assoc v u (token.LeftParen ∷ []), outer, begun, refl, omega arith);
      inner = fresh_begun names (l.around + l.nots + 1) (MOST_DEPTH - (l.around + l.nots + 1)) (omega arith);
      spelled = sym (append-nil ((v ++ u) ++ token.LeftParen ∷ []));
    })

in_parens : (v u inner : List Token) (a b : Token) → (v ++ (u ++ a ∷ [])) ++ (inner ++ b ∷ []) ≡ (v ++ u) ++ (a ∷ (inner ++ b ∷ []))
in_parens v u inner a b = simp append_assoc

part_closed : (names : List (List ℕ)) (o : List LevelTree) (l : LevelTree) (s : LetterState) (v u : List Token) → Surrounds names o l.around v → IsEnded names l u
    → machine.closed o l ≡ Some s → IsPart names s ((v ++ u) ++ token.RightParen ∷ [])
part_closed names [] l s v u outer e step = absurd (none-some s step)
part_closed names (k ∷ ks) l s v u outer e step =
    let whole = level_letter names l u e in
    let P : LetterState → Type 0 = λ x. IsPart names x ((v ++ u) ++ token.RightParen ∷ []) in
    let Q : List Token → Type 0 = λ x. IsPart names (ended ks (complete_level k (level_label l))) x in
    let same : (outer.0 ++ outer.1) ++ (token.LeftParen ∷ (u ++ token.RightParen ∷ [])) ≡ (v ++ u) ++ token.RightParen ∷ [] =
    sym (ap (λ (x : List Token). (x ++ u) ++ token.RightParen ∷ []) outer.2
    ∙ (append_assoc (outer.0 ++ (outer.1 ++ token.LeftParen ∷ [])) u (token.RightParen ∷ []) ∙ in_parens outer.0 outer.1 u token.LeftParen token.RightParen)) in
    subst P (same_Some _ _ step) (subst Q same
    (part_operand names ks k outer.0 (token.LeftParen ∷ (u ++ token.RightParen ∷ [])) outer.1 (level_label l) outer.3 outer.4
    (λ room is. let next : suc e.room ≡ room = omega (arith, e.room_is, outer.5) in subst (λ (r : ℕ). IsOperand names r (token.LeftParen ∷ (u ++ token.RightParen ∷ [])) (level_label l))
    next (group whole))))

begin_part : (place : List ℕ → ℕ) (names : List (List ℕ)) (o : List LevelTree) (l : LevelTree) (s : LetterState) (t : Token) (v u : List Token) → Knows place names t
    → Surrounds names o l.around v → IsBegun names l u → machine.begin_operand place (awaiting o l) t ≡ Some s → IsPart names s ((v ++ u) ++ t ∷ [])
begin_part place names o l s token.True v u knows outer begun step = subst (λ (x : LetterState). IsPart names x ((v ++ u) ++ token.True ∷ [])) (same_Some _ _ step)
    (part_operand names o l v (token.True ∷ []) u label.True outer begun (λ room is. always))
begin_part place names o l s token.False v u knows outer begun step = subst (λ (x : LetterState). IsPart names x ((v ++ u) ++ token.False ∷ [])) (same_Some _ _ step)
    (part_operand names o l v (token.False ∷ []) u label.False outer begun (λ room is. never))
begin_part place names o l s (token.Name name) v u knows outer begun step = subst (λ (x : LetterState). IsPart names x ((v ++ u) ++ token.Name name ∷ [])) (same_Some _ _ step)
    (part_operand names o l v (token.Name name ∷ []) u (label.Prop (place name)) outer begun (λ room is. proposition name (place name) knows))
begin_part place names o l s token.Not v u knows outer begun step = part_negated names o l s v u outer begun step
begin_part place names o l s token.LeftParen v u knows outer begun step = part_opened names o l s v u outer begun step
begin_part place names o l s token.And v u knows outer begun step = absurd (none-some s step)
begin_part place names o l s token.Or v u knows outer begun step = absurd (none-some s step)
begin_part place names o l s token.RightParen v u knows outer begun step = absurd (none-some s step)
begin_part place names o l s token.Semicolon v u knows outer begun step = absurd (none-some s step)
begin_part place names o l s token.Cycle v u knows outer begun step = absurd (none-some s step)
begin_part place names o l s token.LeftBrace v u knows outer begun step = absurd (none-some s step)
begin_part place names o l s token.RightBrace v u knows outer begun step = absurd (none-some s step)

after_part : (names : List (List ℕ)) (o : List LevelTree) (l : LevelTree) (s : LetterState) (t : Token) (v u : List Token) → Surrounds names o l.around v → IsEnded names l u
    → machine.after_operand (ended o l) t ≡ Some s → IsPart names s ((v ++ u) ++ t ∷ [])
after_part names o l s token.And v u outer e step = subst (λ (x : LetterState). IsPart names x ((v ++ u) ++ token.And ∷ [])) (same_Some _ _ step)
    (record { outer_tokens = v; level_tokens = u ++ token.And ∷ []; outer = outer; inner = level_anded names l u e; spelled = append_assoc v u (token.And ∷ []) })
after_part names o l s token.Or v u outer e step = subst (λ (x : LetterState). IsPart names x ((v ++ u) ++ token.Or ∷ [])) (same_Some _ _ step)
    (record { outer_tokens = v; level_tokens = u ++ token.Or ∷ []; outer = outer; inner = level_ored names l u e; spelled = append_assoc v u (token.Or ∷ []) })
after_part names o l s token.RightParen v u outer e step = part_closed names o l s v u outer e step
after_part names o l s token.True v u outer e step = absurd (none-some s step)
after_part names o l s token.False v u outer e step = absurd (none-some s step)
after_part names o l s (token.Name name) v u outer e step = absurd (none-some s step)
after_part names o l s token.Not v u outer e step = absurd (none-some s step)
after_part names o l s token.LeftParen v u outer e step = absurd (none-some s step)
after_part names o l s token.Semicolon v u outer e step = absurd (none-some s step)
after_part names o l s token.Cycle v u outer e step = absurd (none-some s step)
after_part names o l s token.LeftBrace v u outer e step = absurd (none-some s step)
after_part names o l s token.RightBrace v u outer e step = absurd (none-some s step)

step_part : (place : List ℕ → ℕ) (names : List (List ℕ)) (o : List LevelTree) (l : LevelTree) (ready : Bool) (s : LetterState) (t : Token) (v u : List Token) → Knows place names t
    → Surrounds names o l.around v → IsLevel names ready l u → letter_step place (record { outer = o; level = l; ready = ready }) t ≡ Some s → IsPart names s ((v ++ u) ++ t ∷ [])
step_part place names o l false s t v u knows outer inner step = begin_part place names o l s t v u knows outer inner step
step_part place names o l true s t v u knows outer inner step = after_part names o l s t v u outer inner step

-- another token
pub part_step : (place : List ℕ → ℕ) (names : List (List ℕ)) (s next : LetterState) (t : Token) (w : List Token) → Knows place names t → IsPart names s w → letter_step place s t ≡ Some next
    → IsPart names next (w ++ t ∷ [])
part_step place names s next t w knows part step =
    subst (λ (x : List Token). IsPart names next (x ++ t ∷ [])) (sym part.spelled)
    (step_part place names s.outer s.level s.ready next t part.outer_tokens part.level_tokens knows part.outer part.inner step)

-- nothing is read yet
pub part_fresh : (names : List (List ℕ)) → IsPart names machine.fresh []
part_fresh names = record { outer_tokens = []; level_tokens = []; outer = (refl, refl); inner = fresh_begun names 0 MOST_DEPTH refl; spelled = refl }
