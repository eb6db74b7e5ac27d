-- Fields of their forms and within the limits are those of a plan.
use Rattle.std.proofs.Common.{◌≡◌, ◌≤◌, ℕ, true, List}
use Rattle.std.specs.Prelude.{nat_le}
use Rattle.std.specs.List.{list_all, All}
use Rattle.std.proofs.lemmas.Bool.{leb-true}
use Rattle.std.proofs.lemmas.List.Elements.{All-weaker}
use Rattle.std.proofs.lemmas.List.Sums.{AllPass-from_list_all}
use Rattle.helios_model.specs.Limits.{longest_trip, greatest_latency}
use Rattle.helios_model.specs.Plans.{IsMatrix, IsPlan}
use Rattle.commit_offsets.specs.Reading.{HaveForms}
use Rattle.commit_offsets.specs.declared.data.PlanFields.{PlanFields}

pub all_within : (limit : ℕ) (numbers : List ℕ) → list_all (λ n. nat_le n limit) numbers ≡ true → All (λ n. n ≤ limit) numbers
all_within limit numbers h = All-weaker (λ n. nat_le n limit ≡ true) (λ n. n ≤ limit) (λ n. leb-true n limit) numbers (AllPass-from_list_all (λ n. nat_le n limit) numbers h)

matrix_of_forms : (f : PlanFields) → HaveForms f → All (λ trip. trip ≤ longest_trip) f.trips → IsMatrix f.names f.trips
matrix_of_forms f forms short = record {
  some = forms.some;
  few = forms.few;
  named = forms.names.named;
  distinct = forms.names.distinct;
  square = forms.square;
  short = short;
  symmetric = forms.symmetric;
  diagonal = forms.diagonal;
}

pub plan_of_forms : (f : PlanFields) → HaveForms f → All (λ trip. trip ≤ longest_trip) f.trips → All (λ half_micros. half_micros ≤ greatest_latency) f.latencies → IsPlan f.names f.trips f.latencies
plan_of_forms f forms short bounded = record {
  matrix = matrix_of_forms f forms short;
  planned = forms.latencies;
  bounded = bounded;
}
