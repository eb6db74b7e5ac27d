-- The ledger of a site that has heard and done nothing.
use Rattle.std.proofs.Common.{◌≡◌, ℕ, List, [], refl, sym, subst, arith, false}
use Rattle.std.proofs.lemmas.Bool.{both_ways}
use Rattle.helios_model.specs.declared.entries.State.{State}
use Rattle.helios_model.specs.declared.records.CommitEvent.{CommitEvent}
use Rattle.helios_model.specs.declared.records.Record.{Record}
use Rattle.helios_model.specs.Transactions.{Transaction}
use Rattle.log_exchange.specs.Kept.{LogData, first_log}
use Rattle.version_store.specs.declared.held.Held.{Held}
use Rattle.site_ledger.specs.Ledger.{IsLedgerOf, empty_base, ledger_data}

empty_stands : (count site : ℕ) → IsLedgerOf empty_base (ledger_data (first_log count site) [] [] [] [] [])
empty_stands count site = record {
  lookups = record {
    waiting = refl;
    rise = λ i j d low high. absurd (omega arith);
    backed = λ id ended. absurd (both_ways false refl ended);
    versions = λ key. refl;
    values = λ key. refl;
  };
  ends = λ time. refl;
  kept = refl;
  commits = refl;
}

pub first_stands : (count site : ℕ) (exchange : LogData) (pools : List Transaction) (store : List (List ℕ × Held)) (ended : List (ℕ × State)) (added : List Record) (commits : List CommitEvent)
    → exchange ≡ first_log count site → pools ≡ [] → store ≡ [] → ended ≡ [] → added ≡ [] → commits ≡ [] → IsLedgerOf empty_base (ledger_data exchange pools store ended added commits)
first_stands count site exchange pools store ended added commits log none nothing unended fresh uncommitted =
    subst (IsLedgerOf empty_base) (sym (λ i. ledger_data (log i) (none i) (nothing i) (unended i) (fresh i) (uncommitted i))) (empty_stands count site)
