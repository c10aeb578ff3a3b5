-- There is a line of figures of each automaton.
use Rattle.std.proofs.Common.{◌++◌, ℕ, List, [], ◌∷◌, All, append-nil, arith, codes, inl, inr, length, refl, subst}
use Rattle.std.specs.Fmt.{decimal}
use Rattle.std.specs.List.{concat}
use Rattle.aut_base.proofs.lists.Members.{none_there}
use Rattle.aut_base.proofs.order.Climbing.{climbs_in_order}
use Rattle.aut_base.specs.Automaton.{Automaton, IsWellFormed}
use Rattle.aut_base.specs.Formula.{True}
use Rattle.aut_base.specs.declared.letter.Lasso.{Lasso}
use Rattle.aut_ops.proofs.flagged.SomeFlags.{trimmed_exists}
use Rattle.autfilt_laws.proofs.refuted.Refuting.{included}
use Rattle.autfilt_run.specs.Figures.{IsLine, IsShownAs}
use Rattle.filter_plan.specs.declared.format.Piece.{Piece}
use Rattle.filter_plan.specs.declared.format.Piece.TheVariants.{Byte, Edges, Sets, States, Word}
use Rattle.lasso_emptiness.specs.Emptiness.{AcceptsNothing, IsAcceptedWord}
use Rattle.word_syntax.specs.Printing.{HoldsOnly, word_text}

-- the automaton without any state
abbrev nothing : Automaton
nothing = record { names = []; starts = []; states = 0; edges = []; sets = 0; formula = True }

nothing_formed : IsWellFormed nothing
nothing_formed = record {
  names_differ = λ i j d less within. absurd (omega (arith, within));
  starts_differ = λ i j d less within. absurd (omega (arith, within));
  starts = λ k d within. absurd (omega (arith, within));
  in_order = climbs_in_order 0 [] tt;
  edges = λ k d within. absurd (omega (arith, within));
  formula = tt;
}

-- where no reduced word over its names is accepted, no word is
nothing_accepted : (a : Automaton) → ((w : Lasso) → IsAcceptedWord a w → ⊥) → AcceptsNothing a
nothing_accepted a none u v accepted =
    let other = included a nothing nothing_formed (λ w r. none w (record {
      reduced = r.reduced;
      own_names = subst (λ (names : List (List ℕ)). All (HoldsOnly names) (w.stem ++ w.cycle)) (append-nil a.names) r.own_names;
      accepts = r.accepted;
    })) u v accepted in
    none_there other.start other.is_start

some_shown : (piece : Piece) (a : Automaton) → ((text : List ℕ) → IsShownAs piece a text → ⊥) → ⊥
some_shown (Byte b) a none = none (b ∷ []) refl
some_shown States a none = trimmed_exists a (λ t is. none (decimal t.states) (record { trimmed = t; is_trimmed = is; shown = refl }))
some_shown Edges a none = trimmed_exists a (λ t is. none (decimal (length t.edges)) (record { trimmed = t; is_trimmed = is; shown = refl }))
some_shown Sets a none = none (decimal a.sets) refl
some_shown Word a none =
    none [] (inr (nothing_accepted a (λ w accepted. none (word_text a.names w.stem w.cycle) (inl (record { word = w; accepted = accepted; shown = refl }))), refl))

pub some_line : (pieces : List Piece) (a : Automaton) → ((text : List ℕ) → IsLine pieces a text → ⊥) → ⊥
some_line [] a none = none (codes "\n") (record { shown = []; each = tt; all = refl })
some_line (piece ∷ pieces) a none =
    some_shown piece a (λ part shows.
    some_line pieces a (λ rest behind.
    none (concat (part ∷ behind.shown) ++ codes "\n") (record { shown = part ∷ behind.shown; each = (shows, behind.each); all = refl })))
