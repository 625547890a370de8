-- What valuing with a map answers, by the verdict. Assumes nothing.
use mathlib.Core.Bool.{true, false}
use mathlib.Core.List.{List, ◌++◌}
use mathlib.Core.Path.{◌≡◌, refl, ap, ap₂, sym, ◌∙◌}
use Prim.Native.Nat.{ℕ, ◌≤◌, ◌<◌}
use borrow.Author.Tests.{lt-ltb, le-ltb}
use Rattle.std.specs.Prelude.{Ok}
use lib.ListN.{drop, length}
use Rattle.rules.specs.Contract.{Terms, returns_of, rates_of, Input}
use Rattle.rules.specs.Refusals.{refused, on_success, short, verdict, Verdict}
use Rattle.rules.specs.Operations.{Answer, Policy, valuing_checks, filled}
use Rattle.rules.specs.Map.{surrender_map, surrender_count, map_size, count_after, map_after, mapping_checks, surrendered}
use Rattle.laws.specs.Accepted.{success_reports}
use Rattle.laws.specs.Map.{mapping_short, mapping_same, mapping_accepts, mapping_valid}
use Rattle.contract.specs.Reading.{terms_in}
use Rattle.date.specs.Behaviour.{behaviour_in}
use Rattle.date.specs.declared.Behaviour as date
use Rattle.input.specs.declared.Policy as input
use Rattle.valuing.specs.declared.Valuation.{Valuation}
use Rattle.valuing.specs.Answered.{told, Passed, Answered, Reported, reported_passed, reported_refused}
use Rattle.valuing.specs.First.{table_lent}
use Rattle.mapping.specs.Mapped.{Told, map_refusal, Mapping}
use Rattle.rules.specs.FixedTerm.{State, Held, fixed_term, process_of, layout_of}
use Rattle.rules.specs.Policy.{policy_of}
use Rattle.laws.specs.ThirdDemand.{valued_number, valued_claim}
use Rattle.laws.specs.Terms.{frame}
use Rattle.rules.specs.Product.{entries}
use mathlib.Core.Bool.{Bool}

module _ (x : Input) (behaviour : ℕ) (work table map : List ℕ) where
  abbrev p : Policy State Held
  p = policy_of x

  abbrev said : Verdict
  said = verdict (mapping_checks (policy_of x) behaviour work table map)

  -- the equations, and the claim that follows from them
  whole : {r : Told} {work' table' map' : List ℕ} → Reported p said behaviour work table r.answer work' table'
      → r.count ≡ count_after p said behaviour table → map' ≡ map_after p said behaviour table map
      → Mapping x behaviour work table map r work' table' map'
  whole {r = r} w e f = record {
    reported = w;
    count_is = e;
    map_is = f;
    claim = λ z.
        let number = sym (valued_number p said behaviour) ∙ ap (λ (a : Answer). a.number) (sym w.answer_is) ∙ z in
        let yes_to = mapping_accepts x behaviour work table map number in
        rw (ap (λ (a : Answer). a.value) w.answer_is, w.table_is)
        (valued_claim x said behaviour table yes_to (mapping_valid x behaviour work table map yes_to));
  }

  pub refused_whole : (n q : ℕ) → said ≡ refused n q → Mapping x behaviour work table map (map_refusal n q) work table map
  unfolding count_after map_after filled on_success
  refused_whole n q e = whole (reported_refused p behaviour n q e refl) (rw e) (rw e)

  module _ {policy : input.Policy} {b : date.Behaviour}
      (passed : Passed (verdict (valuing_checks (policy_of x) behaviour work table)) x behaviour policy b)
    where
      abbrev c : Terms
      c = terms_in policy.contract

      -- the map of the terms is the policy's
      same_map : (t : Bool) → short (map_size (frame c)) map ≡ t → short (map_size p.product) map ≡ t
      unfolding map_size entries fixed_term process_of layout_of
      same_map t e = ap (λ (z : Terms). short (map_size (frame z)) map) (sym passed.terms) ∙ e

      pub too_short : length map < map_size (frame c) → Mapping x behaviour work table map (map_refusal 16 0) work table map
      unfolding short
      too_short l = refused_whole 16 0 (mapping_short p behaviour work table map passed.accepts (same_map true (lt-ltb _ _ l)))

      fits : map_size (frame c) ≤ length map → short (map_size p.product) map ≡ false
      unfolding short
      fits l = same_map false (le-ltb _ _ l)

      pub filled_whole : {v : Valuation} {n : ℕ} {work' table' map' : List ℕ} → map_size (frame c) ≤ length map
          → Answered (behaviour_in b) c (returns_of policy.list.now) (rates_of policy.rates.now) work table v work' table'
          → n ≡ surrender_count (frame c) table'
          → map' ≡ surrender_map (frame c) table' ++ drop (map_size (frame c)) map
          → Mapping x behaviour work table map (record { answer = told (Ok v); count = n }) work' table' map'
      unfolding count_after map_after filled map_size surrender_map surrender_count surrendered entries fixed_term process_of layout_of
      filled_whole l a e f =
          let yes_to = mapping_same p behaviour work table map (fits l) ∙ passed.accepts in
          let room = (table_lent x behaviour work table passed.accepts passed.terms).lent.room_table in
          let w = reported_passed x behaviour (record { accepts = yes_to; terms = passed.terms; same = passed.same }) room a in
          whole w
          (e ∙ ap₂ (λ (z : Terms) (left : List ℕ). surrender_count (frame z) left) passed.terms w.table_is
          ∙ sym (success_reports _ _ yes_to))
          (f
          ∙ ap₂ (λ (z : Terms) (left : List ℕ). surrender_map (frame z) left ++ drop (map_size (frame z)) map) passed.terms w.table_is
          ∙ sym (success_reports _ _ yes_to))
