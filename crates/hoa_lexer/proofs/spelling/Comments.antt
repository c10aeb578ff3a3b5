-- Comments, and what follows their end.
use Rattle.std.proofs.Common.{◌≡◌, ℕ, zero, suc, ◌+◌, ◌<◌, ◌≤◌, ◌&&◌, ◌==◌, Bool, true, false, cond, List, [], ◌∷◌, ◌++◌, length, Option, Some, None}
use Rattle.std.proofs.Common.{Ok, Err, inl, inr, refl, sym, subst, ◌∙◌, ap, arith, MatchBool}
use Rattle.std.proofs.lemmas.Bool.{cases_Bool}
use Rattle.std.proofs.lemmas.List.{append_assoc, length-append}
use Rattle.hoa_lexer.specs.Blanks.{ClosesComments}
use Rattle.hoa_lexer.specs.Reading.{unread}
use Rattle.hoa_lexer.specs.inner.Steps.{closing, Peeks, StepsIn, ClosesComment, IsReadFault}
use Rattle.hoa_lexer.specs.declared.token.LexFault.{LexFault}
use Rattle.hoa_lexer.specs.declared.token.LexFault.TheVariants.{BadToken, OpenComment, OpenString, OpenToken, Read, Bytes, Memory}

pub unheld : (h : Option ℕ) (y : List ℕ) → h ≡ None → unread h y ≡ y
unheld None y e = refl
unheld (Some b) y e = cc

pub holding : (h : Option ℕ) (b : ℕ) (y : List ℕ) → h ≡ Some b → unread h y ≡ b ∷ y
holding None b y e = cc
holding (Some c) b y e = cc

-- a byte that was read, and the end of the text

pub byte_read : (o : Option ℕ) (b : ℕ) (x y : List ℕ) → o ≡ Some b → Peeks (Ok o) x y → x ≡ b ∷ y
byte_read None b x y e p = cc
byte_read (Some c) b x y e p = cc

pub end_read : (o : Option ℕ) (x y : List ℕ) → o ≡ None → Peeks (Ok o) x y → (x ≡ []) × (y ≡ [])
end_read None x y e p = p
end_read (Some c) x y e p = cc

-- one step, at a depth that is not 0

pub steps_out : (d b c : ℕ) (bs : List ℕ) → ((b == 42) && (c == 47)) ≡ true → closing (suc d) (b ∷ c ∷ bs) ≡ closing d bs
steps_out d b c bs h = rw h refl

pub steps_in : (d b c : ℕ) (bs : List ℕ) → ((b == 42) && (c == 47)) ≡ false → ((b == 47) && (c == 42)) ≡ true → closing (suc d) (b ∷ c ∷ bs) ≡ closing (suc (suc d)) bs
steps_in d b c bs h k = rw (h, k) refl

pub steps_on : (d b c : ℕ) (bs : List ℕ) → ((b == 42) && (c == 47)) ≡ false → ((b == 47) && (c == 42)) ≡ false → closing (suc d) (b ∷ c ∷ bs) ≡ closing (suc d) (c ∷ bs)
steps_on d b c bs h k = rw (h, k) refl

by_tests : {X : Type 0} (p q : Bool) (A B C : Type 0) (x y z w : X) → (A → x ≡ w) → (B → y ≡ w) → (C → z ≡ w) → MatchBool p A (MatchBool q B C) → cond p x (cond q y z) ≡ w
by_tests true q A B C x y z w f g k h = f h
by_tests false true A B C x y z w f g k h = g h
by_tests false false A B C x y z w f g k h = k h

by_lengths : (p q : Bool) (A B C : Type 0) (d n : ℕ) → (A → d + d ≤ n) → (B → suc (suc d) + suc (suc d) ≤ n) → (C → suc d + suc d ≤ suc n) → MatchBool p A (MatchBool q B C)
    → suc d + suc d ≤ suc (suc n)
by_lengths true q A B C d n f g k h = omega (arith, f h)
by_lengths false true A B C d n f g k h = omega (arith, g h)
by_lengths false false A B C d n f g k h = omega (arith, k h)

-- bytes that close comments do so whatever follows them
pub closing_after : (d : ℕ) (body rest : List ℕ) → ClosesComments d body → closing d (body ++ rest) ≡ Some rest
closing_after zero [] rest h = refl
closing_after zero (b ∷ bs) rest h = absurd h
closing_after (suc d) [] rest h = absurd h
closing_after (suc d) (b ∷ []) rest h = absurd h
closing_after (suc d) (b ∷ c ∷ bs) rest h =
    by_tests ((b == 42) && (c == 47)) ((b == 47) && (c == 42)) (ClosesComments d bs) (ClosesComments (suc (suc d)) bs) (ClosesComments (suc d) (c ∷ bs)) _ _ _ _
    (closing_after d bs rest) (closing_after (suc (suc d)) bs rest) (closing_after (suc d) (c ∷ bs) rest) h

-- the bytes up to the end of the comments, and then the rest
pub record IsClosed (d : ℕ) (bytes rest : List ℕ) : Type 0 where
  pub body : List ℕ
  pub closes : ClosesComments d body
  pub split : bytes ≡ body ++ rest

closed_out : (d b c : ℕ) (bs rest : List ℕ) → ((b == 42) && (c == 47)) ≡ true → IsClosed d bs rest → IsClosed (suc d) (b ∷ c ∷ bs) rest
closed_out d b c bs rest h w = record { body = b ∷ c ∷ w.body; closes = rw h w.closes; split = ap (λ xs. b ∷ c ∷ xs) w.split }

closed_in : (d b c : ℕ) (bs rest : List ℕ) → ((b == 42) && (c == 47)) ≡ false → ((b == 47) && (c == 42)) ≡ true → IsClosed (suc (suc d)) bs rest → IsClosed (suc d) (b ∷ c ∷ bs) rest
closed_in d b c bs rest h k w = record { body = b ∷ c ∷ w.body; closes = rw (h, k) w.closes; split = ap (λ xs. b ∷ c ∷ xs) w.split }

closed_on_at : (d b c : ℕ) (bs rest body : List ℕ) → ((b == 42) && (c == 47)) ≡ false → ((b == 47) && (c == 42)) ≡ false → ClosesComments (suc d) body → c ∷ bs ≡ body ++ rest
    → IsClosed (suc d) (b ∷ c ∷ bs) rest
closed_on_at d b c bs rest [] h k w e = absurd w
closed_on_at d b c bs rest (x ∷ xs) h k w e =
    let same : x ≡ c = cc in
    let P : ℕ → Type 0 = λ y. ClosesComments (suc d) (y ∷ xs) in
    let v : ClosesComments (suc d) (c ∷ xs) = subst P same w in
    record { body = b ∷ c ∷ xs; closes = rw (h, k) v; split = cc }

closed_on : (d b c : ℕ) (bs rest : List ℕ) → ((b == 42) && (c == 47)) ≡ false → ((b == 47) && (c == 42)) ≡ false → IsClosed (suc d) (c ∷ bs) rest → IsClosed (suc d) (b ∷ c ∷ bs) rest
closed_on d b c bs rest h k w = closed_on_at d b c bs rest w.body h k w.closes w.split

closing_of_two : (d b c : ℕ) (bs rest : List ℕ)
    → (closing d bs ≡ Some rest → IsClosed d bs rest)
    → (closing (suc (suc d)) bs ≡ Some rest → IsClosed (suc (suc d)) bs rest)
    → (closing (suc d) (c ∷ bs) ≡ Some rest → IsClosed (suc d) (c ∷ bs) rest)
    → closing (suc d) (b ∷ c ∷ bs) ≡ Some rest → IsClosed (suc d) (b ∷ c ∷ bs) rest
closing_of_two d b c bs rest out into on e = elim (cases_Bool ((b == 42) && (c == 47))) [
  | inl h ↦ closed_out d b c bs rest h (out (sym (steps_out d b c bs h) ∙ e))
  | inr h ↦ elim (cases_Bool ((b == 47) && (c == 42))) [
    | inl k ↦ closed_in d b c bs rest h k (into (sym (steps_in d b c bs h k) ∙ e))
    | inr k ↦ closed_on d b c bs rest h k (on (sym (steps_on d b c bs h k) ∙ e))
  ]
]

-- `closing` answers what follows the comments
pub closing_sound : (d : ℕ) (bytes rest : List ℕ) → closing d bytes ≡ Some rest → IsClosed d bytes rest
closing_sound zero bytes rest e = let same : bytes ≡ rest = cc in record { body = []; closes = tt; split = same }
closing_sound (suc d) [] rest e = absurd (cc)
closing_sound (suc d) (b ∷ []) rest e = absurd (cc)
closing_sound (suc d) (b ∷ c ∷ bs) rest e =
    closing_of_two d b c bs rest (closing_sound d bs rest) (closing_sound (suc (suc d)) bs rest) (closing_sound (suc d) (c ∷ bs) rest) e

-- a comment takes two bytes at least to close
pub closes_long : (d : ℕ) (body : List ℕ) → ClosesComments d body → d + d ≤ length body
closes_long zero [] h = omega arith
closes_long zero (b ∷ bs) h = absurd h
closes_long (suc d) [] h = absurd h
closes_long (suc d) (b ∷ []) h = absurd h
closes_long (suc d) (b ∷ c ∷ bs) h =
    by_lengths ((b == 42) && (c == 47)) ((b == 47) && (c == 42)) (ClosesComments d bs) (ClosesComments (suc (suc d)) bs) (ClosesComments (suc d) (c ∷ bs)) d (length bs)
    (closes_long d bs) (closes_long (suc (suc d)) bs) (closes_long (suc d) (c ∷ bs)) h

-- Where at most one byte was read since, the bytes before it close nothing either.
at_hand_open : (d : ℕ) (seen last new : List ℕ) (r : Option (List ℕ)) → 0 < d → length last ≤ 1 → closing d (last ++ new) ≡ closing 1 (seen ++ (last ++ new)) → closing 1 (seen ++ last) ≡ r → r ≡ None
at_hand_open d seen last new None p l e k = refl
at_hand_open d seen last new (Some rest) p l e k =
    let w = closing_sound 1 (seen ++ last) rest k in
    let whole : seen ++ (last ++ new) ≡ w.body ++ (rest ++ new) = sym (append_assoc seen last new) ∙ ap (λ xs. xs ++ new) w.split ∙ append_assoc w.body rest new in
    let v = closing_sound d (last ++ new) (rest ++ new) (e ∙ ap (closing 1) whole ∙ closing_after 1 w.body (rest ++ new) w.closes) in
    absurd (omega (arith, closes_long d v.body v.closes, simp length-append at (ap length v.split)))

pub step_err : (h1 h2 : Option ℕ) (fault : LexFault) (first depth : ℕ) (x y z : List ℕ) → x ≡ first ∷ y → h1 ≡ None → unread h1 y ≡ z → h2 ≡ None → IsReadFault fault
    → StepsIn (Err fault) depth x (unread h2 z)
step_err h1 h2 Read first depth x y z p e q k r =
    let a = unheld h1 y e in
    let b = unheld h2 z k in
    (first ∷ [], cc, omega arith)
step_err h1 h2 Bytes first depth x y z p e q k r =
    let a = unheld h1 y e in
    let b = unheld h2 z k in
    (first ∷ [], cc, omega arith)
step_err h1 h2 (BadToken n) first depth x y z p e q k r = absurd r
step_err h1 h2 OpenComment first depth x y z p e q k r = absurd r
step_err h1 h2 OpenString first depth x y z p e q k r = absurd r
step_err h1 h2 OpenToken first depth x y z p e q k r = absurd r
step_err h1 h2 Memory first depth x y z p e q k r = absurd r

step_out_at : (d next first second : ℕ) (x z : List ℕ) → next + 1 ≡ d → x ≡ first ∷ second ∷ z → ((first == 42) && (second == 47)) ≡ true → closing next z ≡ closing d x
step_out_at zero next first second x z e p t = absurd (omega arith)
step_out_at (suc d) next first second x z e p t =
    let same : next ≡ d = omega arith in
    ap (λ n. closing n z) same ∙ sym (steps_out d first second z t) ∙ ap (closing (suc d)) (sym p)

pub step_closes : (h1 : Option ℕ) (first second depth next : ℕ) (x y z : List ℕ) → next + 1 ≡ depth → x ≡ first ∷ y → h1 ≡ None → unread h1 y ≡ second ∷ z
    → ((first == 42) && (second == 47)) ≡ true → StepsIn (Ok next) depth x z
step_closes h1 first second depth next x y z d p e q t =
    let a = unheld h1 y e in
    let whole : x ≡ first ∷ second ∷ z = cc in
    (step_out_at depth next first second x z d whole t, first ∷ second ∷ [], whole)

step_in_at : (d next first second : ℕ) (x z : List ℕ) → 0 < d → next ≡ d + 1 → x ≡ first ∷ second ∷ z → ((first == 42) && (second == 47)) ≡ false → ((first == 47) && (second == 42)) ≡ true
    → closing next z ≡ closing d x
step_in_at zero next first second x z l e p s t = absurd (omega arith)
step_in_at (suc d) next first second x z l e p s t =
    let same : next ≡ suc (suc d) = omega arith in
    ap (λ n. closing n z) same ∙ sym (steps_in d first second z s t) ∙ ap (closing (suc d)) (sym p)

pub step_opens : (h1 : Option ℕ) (first second depth next : ℕ) (x y z : List ℕ) → 0 < depth → next ≡ depth + 1 → x ≡ first ∷ y → h1 ≡ None → unread h1 y ≡ second ∷ z
    → ((first == 42) && (second == 47)) ≡ false → ((first == 47) && (second == 42)) ≡ true → StepsIn (Ok next) depth x z
step_opens h1 first second depth next x y z l d p e q s t =
    let a = unheld h1 y e in
    let whole : x ≡ first ∷ second ∷ z = cc in
    (step_in_at depth next first second x z l d whole s t, first ∷ second ∷ [], whole)

step_on_at : (d first second : ℕ) (x z : List ℕ) → 0 < d → x ≡ first ∷ second ∷ z → ((first == 42) && (second == 47)) ≡ false → ((first == 47) && (second == 42)) ≡ false
    → closing d (second ∷ z) ≡ closing d x
step_on_at zero first second x z l p s t = absurd (omega arith)
step_on_at (suc d) first second x z l p s t = sym (steps_on d first second z s t) ∙ ap (closing (suc d)) (sym p)

pub step_stays : (h1 h2 : Option ℕ) (first second depth : ℕ) (x y z : List ℕ) → 0 < depth → x ≡ first ∷ y → h1 ≡ None → unread h1 y ≡ second ∷ z → h2 ≡ Some second
    → ((first == 42) && (second == 47)) ≡ false → ((first == 47) && (second == 42)) ≡ false → StepsIn (Ok depth) depth x (unread h2 z)
step_stays h1 h2 first second depth x y z l p e q k s t =
    let a = unheld h1 y e in
    let b = holding h2 second z k in
    let whole : x ≡ first ∷ second ∷ z = cc in
    (ap (closing depth) b ∙ step_on_at depth first second x z l whole s t, first ∷ [], cc)

-- the loop over steps

pub comment_step : (depth next : ℕ) (x y z : List ℕ) → (closing depth y ≡ closing 1 x) × (seen : List ℕ) × (x ≡ seen ++ y) → StepsIn (Ok next) depth y z
    → (closing next z ≡ closing 1 x) × (seen : List ℕ) × (x ≡ seen ++ z)
comment_step depth next x y z h s =
    (s.0 ∙ h.0, h.1 ++ s.1, h.2 ∙ ap (λ w. h.1 ++ w) s.2 ∙ sym (append_assoc h.1 s.1 z))

pub comment_err : (fault : LexFault) (depth : ℕ) (x y z : List ℕ) → 0 < depth → (closing depth y ≡ closing 1 x) × (seen : List ℕ) × (x ≡ seen ++ y) → StepsIn (Err fault) depth y z
    → ClosesComment (Err fault) x z
comment_err OpenComment depth x y z l h s = (sym h.0 ∙ s.0, s.1)
comment_err Bytes depth x y z l h s =
    let whole : x ≡ h.1 ++ (s.0 ++ z) = h.2 ∙ ap (λ w. h.1 ++ w) s.1 in
    let same : closing depth (s.0 ++ z) ≡ closing 1 (h.1 ++ (s.0 ++ z)) = ap (closing depth) (sym s.1) ∙ h.0 ∙ ap (closing 1) whole in
    (h.1 ++ s.0, whole ∙ sym (append_assoc h.1 s.0 z), at_hand_open depth h.1 s.0 z _ l s.2 same refl)
comment_err Read depth x y z l h s =
    let whole : x ≡ h.1 ++ (s.0 ++ z) = h.2 ∙ ap (λ w. h.1 ++ w) s.1 in
    let same : closing depth (s.0 ++ z) ≡ closing 1 (h.1 ++ (s.0 ++ z)) = ap (closing depth) (sym s.1) ∙ h.0 ∙ ap (closing 1) whole in
    (h.1 ++ s.0, whole ∙ sym (append_assoc h.1 s.0 z), at_hand_open depth h.1 s.0 z _ l s.2 same refl)
comment_err (BadToken n) depth x y z l h s = absurd s
comment_err OpenString depth x y z l h s = absurd s
comment_err OpenToken depth x y z l h s = absurd s
comment_err Memory depth x y z l h s = absurd s
