-- The files that a run opened are a prefix of those that were to be opened.
use Rattle.std.proofs.Common.{◌≡◌, ◌∙◌, ℕ, List, [], ◌∷◌, ◌++◌, ap, length, refl, sym, take}
use Rattle.std.proofs.lemmas.List.{append-nil, append_assoc}
use Rattle.aut_io.specs.Outside.{Texts}
use Rattle.autfilt_run.specs.Events.{Dropped, Ended, Event, EventLeads, Happen, Kept, Opened, Point, Skipped, opened_stream, opened_streams}
use Rattle.autfilt_run.specs.OperandEvents.{AreRead, FileOpened, OperandEvent, PassedOver, Proceeds, Taken, opened_file, opened_files}
use Rattle.filter_plan.specs.declared.plan.Plan.{Plan}

coming_of : (p q : Point) → p ≡ q → p.coming ≡ q.coming
coming_of p q same = ap (λ (x : Point). x.coming) same

coming_after_event : (texts : Texts) (e : Event) (p q : Point) → EventLeads texts e p q → p.coming ≡ opened_stream e ++ q.coming
coming_after_event texts (Opened name) p q g = g.next ∙ ap (λ (names : List (List ℕ)). name ∷ names) (sym (ap (λ (x : Point). x.coming) g.to))
coming_after_event texts (Kept w text) p q g = sym (ap (λ (x : Point). x.coming) g.to)
coming_after_event texts (Dropped w) p q g = sym (ap (λ (x : Point). x.coming) g.to)
coming_after_event texts (Skipped name) p q g = sym (ap (λ (x : Point). x.coming) g.reads.to)
coming_after_event texts Ended p q g = sym (ap (λ (x : Point). x.coming) g.to)

pub streams_opened : (plan : Plan) (texts : Texts) (events : List Event) (p q : Point) → Happen plan texts events p q → p.coming ≡ opened_streams events ++ q.coming
streams_opened plan texts [] p q h = coming_of p q h
streams_opened plan texts (e ∷ events) p q h =
    coming_after_event texts e p h.1 h.2
    ∙ (ap (λ (names : List (List ℕ)). opened_stream e ++ names) (streams_opened plan texts events h.1 q h.3) ∙ sym (append_assoc (opened_stream e) (opened_streams events) q.coming))

proceeds_on : (texts : Texts) (e : OperandEvent) (p q : Point) → Proceeds texts e p q → p.coming ≡ opened_file e ++ q.coming
proceeds_on texts (FileOpened name) p q g = g.next ∙ ap (λ (names : List (List ℕ)). name ∷ names) (sym (ap (λ (x : Point). x.coming) g.to))
proceeds_on texts (Taken w) p q g = sym (ap (λ (x : Point). x.coming) g.to)
proceeds_on texts (PassedOver name) p q g = sym (ap (λ (x : Point). x.coming) g.reads.to)

pub files_opened : (texts : Texts) (taken : List OperandEvent) (p q : Point) → AreRead texts taken p q → p.coming ≡ opened_files taken ++ q.coming
files_opened texts [] p q h = coming_of p q h
files_opened texts (e ∷ taken) p q h =
    proceeds_on texts e p h.0 h.1
    ∙ (ap (λ (names : List (List ℕ)). opened_file e ++ names) (files_opened texts taken h.0 q h.2) ∙ sym (append_assoc (opened_file e) (opened_files taken) q.coming))

front_taken : (names more : List (List ℕ)) → take (length names) (names ++ more) ≡ names
front_taken [] more = refl
front_taken (name ∷ names) more = ap (λ (xs : List (List ℕ)). name ∷ xs) (front_taken names more)

-- a prefix
pub front_of : (names all more : List (List ℕ)) → all ≡ names ++ more → (k : ℕ) × (names ≡ take k all)
front_of names all more is = (length names, sym (ap (take (length names)) is ∙ front_taken names more))

pub all_of : (names all more : List (List ℕ)) → all ≡ names ++ more → more ≡ [] → names ≡ all
all_of names all more is none = sym (is ∙ (ap (λ (xs : List (List ℕ)). names ++ xs) none ∙ append-nil names))
