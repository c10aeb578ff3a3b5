-- What the sink for notes has gained, line by line, and whether a write failed.
use Rattle.std.proofs.Common.{◌≡◌, ℕ, Bool, true, false, List, [], ◌++◌, ap, sym, ◌∙◌, subst, append-nil, append_assoc}
use Rattle.std.specs.Prelude.{codes}
use Rattle.aut_io.specs.Seen.{SinkSeen}
use Rattle.autfilt_run.proofs.printing.Gains.{both, first, second}
use Rattle.autfilt_run.proofs.printing.Writing.{rose_from}
use Rattle.autfilt_run.specs.Noted.{HasNoted}
use Rattle.autfilt_run.specs.Notes.{line_about}

-- lines that were noted, and another one
pub notes_then : (a b c : SinkSeen) (p q : List ℕ) (noting whole : Bool) → noting ≡ true → HasNoted p noting a b → HasNoted q whole b c → HasNoted (p ++ q) whole a c
notes_then a b c p q false whole e one two = cc
notes_then a b c p q true true e one two = (both a.written b.written c.written p q one.0 two.0, two.1 ∙ one.1)
notes_then a b c p q true false e one two = (second a.written b.written c.written p q one.0 two.0, rose_from a.faults b.faults c.faults one.1 two.1)

-- nothing is noted after a failed write
pub notes_stop : (a b : SinkSeen) (p q : List ℕ) (noting : Bool) → noting ≡ false → HasNoted p noting a b → HasNoted (p ++ q) false a b
notes_stop a b p q true e one = cc
notes_stop a b p q false e one = (first a.written b.written p q one.0, one.1)

-- nothing was noted
pub notes_nothing : (a b : SinkSeen) (p : List ℕ) (noting : Bool) → HasNoted p noting a b → HasNoted (p ++ []) noting a b
notes_nothing a b p noting one = subst (λ (x : List ℕ). HasNoted x noting a b) (sym (append-nil p)) one

-- the pieces of a line about a text
pub line_is : (name about value : List ℕ) → (codes "autfilt: " ++ (name ++ (codes ": " ++ about))) ++ (value ++ codes "\n") ≡ line_about name (about ++ value)
line_is name about value =
    let back = codes "\n" in
    let sep = codes ": " in
    append_assoc (codes "autfilt: ") (name ++ (sep ++ about)) (value ++ back)
    ∙ ap (λ x. codes "autfilt: " ++ x) (append_assoc name (sep ++ about) (value ++ back)
    ∙ ap (λ x. name ++ x) (append_assoc sep about (value ++ back) ∙ ap (λ x. sep ++ x) (sym (append_assoc about value back))))

-- the same with a sign after the word
pub closed_line_is : (name about word : List ℕ) → (codes "autfilt: " ++ (name ++ (codes ": " ++ about))) ++ (word ++ codes ")\n") ≡ line_about name (about ++ (word ++ codes ")"))
closed_line_is name about word = ap (λ x. (codes "autfilt: " ++ (name ++ (codes ": " ++ about))) ++ x) (sym (append_assoc word (codes ")") (codes "\n"))) ∙ line_is name about (word ++ codes ")")
