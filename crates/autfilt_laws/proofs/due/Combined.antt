-- What products, products-or and sums make is well formed and within limits.
use Rattle.std.proofs.Common.{◌≡◌, ◌+◌, ◌≤◌, ap, arith, length, refl, subst, sym}
use Rattle.acc_forms.proofs.FormulaSets.{sets_conj, sets_disj}
use Rattle.acc_forms.specs.Joined.{conj, disj}
use Rattle.aut_base.specs.Automaton.{Automaton, IsWellFormed}
use Rattle.aut_base.specs.declared.limit.Limit.TheVariants as limit
use Rattle.aut_base.specs.declared.limit.TheConstants.{MOST_NAMES}
use Rattle.aut_core.proofs.OtherNames.{AreAmong}
use Rattle.aut_core.specs.OtherNames.{AcceptTheSame, joined_names, over_names}
use Rattle.aut_ops.proofs.following.Languages.{both_like, either_like}
use Rattle.aut_ops.proofs.following.SumRuns.{sum_accepts, sum_formed}
use Rattle.aut_ops.proofs.joint_runs.MadeProducts.{over_runs}
use Rattle.aut_ops.proofs.joint_runs.ProductFormed.{product_formed}
use Rattle.aut_ops.proofs.joint_runs.ProductLanguages.{product_accepts, product_or_accepts}
use Rattle.aut_ops.proofs.sinks.CompleteRuns.{complete_runs}
use Rattle.aut_ops.proofs.sinks.SinkStates.{completed_accepts, completed_complete, completed_names}
use Rattle.aut_ops.specs.Completion.{completed}
use Rattle.aut_ops.specs.Languages.{AcceptsBoth, AcceptsEither}
use Rattle.autfilt_laws.proofs.due.Formed.{completed_formed}
use Rattle.autfilt_laws.proofs.due.Names.{one_among, other_among, over_formed, over_same}
use Rattle.autfilt_laws.proofs.due.Sizes.{IsFine, IsOperand, Step, few_names, few_pairs}
use Rattle.parity_det.proofs.ParityLaws.{same_through}
use Rattle.plan_meaning.proofs.changes.Combinations.{product_made, product_or_made, product_or_size, sum_made}
use Rattle.plan_meaning.specs.Changes.{MakesWithin, Product, ProductOr, Sum}
use Rattle.plan_meaning.specs.inner.Stepping.{IsOfProductOrSize, IsOfProductSize}
use Rattle.plan_meaning.specs.Operands.{IsOfReadSize}

module _ (a b made : Automaton) (operand : IsOperand b) where
  pub product_step : IsFine IsOfReadSize a → MakesWithin (Product b) a made → Step (Product b) a made
  product_step f m =
      let names = joined_names a.names b.names in
      let among = one_among a b f.formed operand.formed in
      let also = other_among a b f.formed operand.formed in
      let x = over_names names a in
      let y = over_names names b in
      let fx = over_formed a a.names names refl among f.formed in
      let fy = over_formed b b.names names refl also operand.formed in
      let few = few_names a b (m.within limit.Names) in
      let is = m.makes in
      let states = few_pairs conj x y made is (λ more. m.within limit.Pairs (few, more)) in
      let sets : made.sets ≡ a.sets + b.sets = ap (λ (z : Automaton). z.sets) is.is in
      let whole = subst (λ (z : Automaton). AcceptsBoth z x y) (sym is.is) (product_accepts x y refl fx fy is.pairs is.in_order) in
      let accepts = both_like made x y a b (over_same a a.names names refl among f.formed) (over_same b b.names names refl also operand.formed) whole in
      record {
        is = product_made a b made is accepts few states;
        fine = record {
          formed = subst IsWellFormed (sym is.is) (product_formed conj x y refl fx fy is.pairs is.in_order sets_conj);
          names = subst (λ (z : Automaton). length z.names ≤ MOST_NAMES) (sym is.is) few;
          size = record { states = states; sets = omega (arith, sets, f.size.sets, operand.size.sets) };
        };
      }

  pub product_or_step : IsFine IsOfProductSize a → MakesWithin (ProductOr b) a made → Step (ProductOr b) a made
  product_or_step f m =
      let names = joined_names a.names b.names in
      let among = one_among a b f.formed operand.formed in
      let also = other_among a b f.formed operand.formed in
      let ca = completed_formed a f.formed in
      let cb = completed_formed b operand.formed in
      let na = completed_names a f.formed in
      let nb = completed_names b operand.formed in
      let x = over_names names (completed a) in
      let y = over_names names (completed b) in
      let fx = over_formed (completed a) a.names names na among ca in
      let fy = over_formed (completed b) b.names names nb also cb in
      let rx = over_runs (completed a) names (subst (λ ns. AreAmong ns names) (sym na) among) ca (complete_runs (completed a) ca (completed_complete a f.formed)) in
      let ry = over_runs (completed b) names (subst (λ ns. AreAmong ns names) (sym nb) also) cb (complete_runs (completed b) cb (completed_complete b operand.formed)) in
      let few = few_names a b (m.within limit.Names) in
      let is = m.makes in
      let states = few_pairs disj x y made is (λ more. m.within limit.Pairs (few, more)) in
      let whole = subst (λ (z : Automaton). AcceptsEither z x y) (sym is.is) (product_or_accepts x y refl fx fy is.pairs is.in_order rx ry) in
      let sx : AcceptTheSame x a = same_through x (completed a) a (over_same (completed a) a.names names na among ca) (completed_accepts a f.formed) in
      let sy : AcceptTheSame y b = same_through y (completed b) b (over_same (completed b) b.names names nb also cb) (completed_accepts b operand.formed) in
      record {
        is = product_or_made a b made is (either_like made x y a b sx sy whole) few states;
        fine = record {
          formed = subst IsWellFormed (sym is.is) (product_formed disj x y refl fx fy is.pairs is.in_order sets_disj);
          names = subst (λ (z : Automaton). length z.names ≤ MOST_NAMES) (sym is.is) few;
          size = product_or_size a b made is states f.size operand.size;
        };
      }

  pub sum_step : IsFine IsOfProductOrSize a → MakesWithin (Sum b) a made → Step (Sum b) a made
  sum_step f m =
      let names = joined_names a.names b.names in
      let among = one_among a b f.formed operand.formed in
      let also = other_among a b f.formed operand.formed in
      let x = over_names names a in
      let y = over_names names b in
      let fx = over_formed a a.names names refl among f.formed in
      let fy = over_formed b b.names names refl also operand.formed in
      let few = few_names a b (λ many. m.within limit.Names (refl, many)) in
      let is = m.makes in
      let states : made.states ≡ a.states + b.states = ap (λ (z : Automaton). z.states) is in
      let sets : made.sets ≡ a.sets + b.sets + 1 = ap (λ (z : Automaton). z.sets) is in
      let whole = subst (λ (z : Automaton). AcceptsEither z x y) (sym is) (sum_accepts x y refl fx fy) in
      let accepts = either_like made x y a b (over_same a a.names names refl among f.formed) (over_same b b.names names refl also operand.formed) whole in
      record {
        is = sum_made a b made is accepts few;
        fine = record {
          formed = subst IsWellFormed (sym is) (sum_formed x y refl fx fy);
          names = subst (λ (z : Automaton). length z.names ≤ MOST_NAMES) (sym is) few;
          size = record { states = omega (arith, states, f.size.states, operand.size.states); sets = omega (arith, sets, f.size.sets, operand.size.sets) };
        };
      }
