-- Counting of openings over consecutive calls.
use Rattle.std.proofs.Common.{◌≡◌, ◌≢◌, ℕ, suc, zero, ◌+◌, ◌<◌, Bool, false, List, length, take, ap, ◌∙◌, subst, sym, arith}
use Rattle.std.proofs.lemmas.List.{length-take-le}
use Rattle.aut_io.specs.Outside.{incremented, raised_by}
use Rattle.aut_io.specs.Seen.{Seen}
use Rattle.autfilt_run.specs.Openings.{AreOpened, AreTried, WantsFile}
use Rattle.autfilt_run.specs.declared.ended.End.{End}
use Rattle.autfilt_run.specs.declared.ended.End.TheVariants as end
use Rattle.autfilt_run.specs.declared.fault.RunFault.{RunFault}
use Rattle.autfilt_run.specs.declared.fault.RunFault.TheVariants as fault

pub fault_in : {f g : RunFault} → end.Fault f ≡ end.Fault g → f ≡ g
fault_in e = ap fault_or_memory e
  where
    fault_or_memory : End → RunFault
    fault_or_memory (end.Fault f) = f
    fault_or_memory _ = fault.Memory

raised_then : (a b n : ℕ) → raised_by b (raised_by a n) ≡ raised_by (a + b) n
raised_then a zero n = ap (λ k. raised_by k n) (zero_more a)
  where
    zero_more : (a : ℕ) → a ≡ a + 0
    zero_more a = omega arith
raised_then a (suc b) n = ap incremented (raised_then a b n) ∙ ap (λ k. raised_by k n) (suc_inside a b)
  where
    suc_inside : (a b : ℕ) → suc (a + b) ≡ a + suc b
    suc_inside a b = omega arith

-- more were opened
pub opened_then : (a b : ℕ) (s m t : Seen) → AreOpened a s m → AreOpened b m t → AreOpened (a + b) s t
opened_then a b s m t one two = two ∙ ap (raised_by b) one ∙ raised_then a b s.openings

pub opened_as : (a b : ℕ) (s t : Seen) → a ≡ b → AreOpened a s t → AreOpened b s t
opened_as a b s t e h = subst (λ k. AreOpened k s t) e h

-- a fault, after more was opened
pub tried_then : (e : End) (wants : Type 0) (a b : ℕ) (s m t : Seen) → AreOpened a s m → AreTried e wants b m t → AreTried e wants (a + b) s t
tried_then e wants a b s m t one two = record {
  tried = two.tried;
  once = two.once;
  wanted = two.wanted;
  failed = two.failed;
  opened = opened_as (a + (b + two.tried)) (a + b + two.tried) s t (omega arith) (opened_then a (b + two.tried) s m t one two.opened);
}

pub tried_as : (e : End) (wants : Type 0) (a b : ℕ) (s t : Seen) → a ≡ b → AreTried e wants a s t → AreTried e wants b s t
tried_as e wants a b s t is h = subst (λ k. AreTried e wants k s t) is h

pub tried_of : (d e : End) (wants : Type 0) (a : ℕ) (s t : Seen) → d ≡ e → AreTried e wants a s t → AreTried d wants a s t
tried_of d e wants a s t is h = subst (λ x. AreTried x wants a s t) (sym is) h

-- the same, by another condition for that a file is to be opened
pub tried_for : (e : End) (wants wants' : Type 0) (a : ℕ) (s t : Seen) → (wants → wants') → AreTried e wants a s t → AreTried e wants' a s t
tried_for e wants wants' a s t to h = record { tried = h.tried; once = h.once; wanted = λ one. let w = h.wanted one in (to w.0, w.1); failed = h.failed; opened = h.opened }

-- a fault after which nothing was opened
pub tried_behind : (e : End) (wants : Type 0) (a : ℕ) (s m t : Seen) → AreOpened a s m → AreTried e wants 0 m t → AreTried e wants a s t
tried_behind e wants a s m t one two = tried_as e wants (a + 0) a s t (omega arith) (tried_then e wants a 0 s m t one two)

-- a fault while nothing is opened
pub tried_none : (e : End) (wants : Type 0) (s t : Seen) → e ≢ end.Fault fault.CannotOpen → t.openings ≡ s.openings → AreTried e wants 0 s t
tried_none e wants s t other same =
    record { tried = 0; once = omega arith; wanted = λ one. let none : 0 ≡ 1 = one in cc; failed = λ is. absurd (other is); opened = same }

-- so many names of a list were opened, and another one follows
pub wants_next : {A : Type 0} (is_open : Bool) (xs : List A) (n : ℕ) (ys : List A) → is_open ≡ false → n < length xs → ys ≡ take n xs → WantsFile is_open (length ys) (length xs)
wants_next is_open xs n ys closed within front =
    let short : length ys ≡ n = ap length front ∙ length-take-le n xs (omega (arith, within)) in
    record { closed = closed; more = omega (arith, short, within) }
