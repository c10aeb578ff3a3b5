-- The byte at a place of the generated text. It is one of the bytes of a part before its number, of its number, or after
-- its number.
use Rattle.std.proofs.Common.{◌≡◌, ℕ, ◌+◌, ◌-◌, ◌<◌, ◌≤◌, List, ◌++◌, Some, length, slice_get, arith, ◌∙◌, length-append}
use Rattle.std.specs.Fmt.{decimal}
use Rattle.std.specs.List.{slice_index_or}
use Rattle.std.proofs.lemmas.Option.{slice_get-get_or}
use Rattle.aut_base.proofs.lists.Lists.{slice_get-append_left, slice_get-append_right}
use Rattle.made_stream.specs.inner.Left.{left_at}
use Rattle.made_stream.specs.inner.Parts.{part_back, part_front, part_number, ring_part_text}
use Rattle.made_stream.specs.declared.made.place.Part.{Part}
use Rattle.made_stream.specs.declared.made.place.Place.{Place}
use Rattle.made_stream.proofs.Rings.{first_byte}

pub length-part_text :
    (ring state : ℕ) (p : Part) →
    length (ring_part_text ring state p)
    ≡ length (part_front p) + length (decimal (part_number ring state p)) + length (part_back ring p)
unfolding ring_part_text
length-part_text ring state p =
    let number = decimal (part_number ring state p) in
    let behind_front = length-append (part_front p) (number ++ part_back ring p) in
    let behind_number = length-append number (part_back ring p) in
    omega arith

-- The place is after these first bytes of its part, which are followed by this number with `digits` digits.
pub record IsBehindFront (p : Place) (front : List ℕ) (number digits : ℕ) : Type 0 where
  pub front_is : front ≡ part_front p.part
  pub number_is : number ≡ part_number p.ring p.state p.part
  pub digits_is : digits ≡ length (decimal number)
  pub behind : length front ≤ p.given

pub behind_front : (p : Place) (front : List ℕ) (number digits : ℕ) → front ≡ part_front p.part → number ≡ part_number p.ring p.state p.part → digits ≡ length (decimal number)
    → length front ≤ p.given → IsBehindFront p front number digits
behind_front p front number digits front_is number_is digits_is behind = record { front_is = front_is; number_is = number_is; digits_is = digits_is; behind = behind }

at_place :
    (count : ℕ) (p : Place) (byte : ℕ) → slice_get (ring_part_text p.ring p.state p.part) p.given ≡ Some byte →
    slice_get (left_at count (Some p)) 0 ≡ Some byte
at_place count p byte is = first_byte (ring_part_text p.ring p.state p.part) _ p.given byte is

pub byte_of_front :
    (count : ℕ) (p : Place) (front : List ℕ) → front ≡ part_front p.part → p.given < length front →
    slice_get (left_at count (Some p)) 0 ≡ Some (slice_index_or front p.given 0)
unfolding ring_part_text
byte_of_front count p front is_front within =
    at_place count p _
    (rw (← is_front) (slice_get-append_left front _ p.given within ∙ slice_get-get_or front p.given 0 within))

pub byte_of_number :
    (count : ℕ) (p : Place) (front : List ℕ) (number digits byte : ℕ) → IsBehindFront p front number digits →
    p.given - length front < digits → slice_get (decimal number) (p.given - length front) ≡ Some byte →
    slice_get (left_at count (Some p)) 0 ≡ Some byte
unfolding ring_part_text
byte_of_number count p front number digits byte at within is =
    let here : p.given - length front < length (decimal number) = omega arith in
    let start : p.given ≡ length front + (p.given - length front) = omega arith in
    at_place count p byte
    (rw (← at.front_is, ← at.number_is)
    (slice_get-append_right front _ (p.given - length front) p.given start
    ∙ slice_get-append_left (decimal number) _ _ here
    ∙ is))

pub within_back :
    (p : Place) (front back : List ℕ) (number digits : ℕ) → IsBehindFront p front number digits →
    back ≡ part_back p.ring p.part → digits ≤ p.given - length front → p.given - length front - digits < length back
within_back p front back number digits at is_back behind =
    let whole : length (ring_part_text p.ring p.state p.part) ≡ length front + length (decimal number) + length back =
    rw (at.front_is, at.number_is, is_back) (length-part_text p.ring p.state p.part) in
    let within = p.within in
    omega arith

pub byte_of_back :
    (count : ℕ) (p : Place) (front back : List ℕ) (number digits : ℕ) → IsBehindFront p front number digits →
    back ≡ part_back p.ring p.part → digits ≤ p.given - length front →
    slice_get (left_at count (Some p)) 0 ≡ Some (slice_index_or back (p.given - length front - digits) 0)
unfolding ring_part_text
byte_of_back count p front back number digits at is_back behind =
    let here = within_back p front back number digits at is_back behind in
    let start : p.given ≡ length front + (p.given - length front) = omega arith in
    let tail : p.given - length front ≡ length (decimal number) + (p.given - length front - digits) = omega arith in
    at_place count p _
    (rw (← at.front_is, ← at.number_is, ← is_back)
    (slice_get-append_right front _ (p.given - length front) p.given start
    ∙ slice_get-append_right (decimal number) back (p.given - length front - digits) _ tail
    ∙ slice_get-get_or back (p.given - length front - digits) 0 here))
