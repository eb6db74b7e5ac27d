-- How the parts of a node follow its steps.
use Rattle.std.proofs.Common.{◌≡◌, ◌∙◌, ap, refl, sym, subst, ℕ, ◌+◌, ◌*◌, ◌≤◌, max, List, [], ◌∷◌, ◌++◌, length, append_assoc, arith}
use Rattle.std.proofs.Math.Nat.{max-eq_right}
use Rattle.helios_model.specs.declared.records.Record.{Record}
use Rattle.helios_model.specs.declared.records.Record.TheVariants.{Commit, Prepare}
use Rattle.helios_model.specs.declared.ids.TxnId.{TxnId}
use Rattle.helios_model.specs.Exchange.{merged, take_all}
use Rattle.helios_model.specs.Messages.{advanced, with_intake, with_records}
use Rattle.helios_model.specs.Request.{entered}
use Rattle.helios_model.specs.Settle.{commit_one}
use Rattle.helios_model.specs.Transactions.{Transaction}
use Rattle.helios_model.specs.Grid.{at, put}
use Rattle.helios_model.specs.Node.{Node, clamp, with_clock, with_record}
use Rattle.helios_model.specs.Plans.{PlanData, count_of}
use Rattle.log_exchange.specs.Kept.{needed}
use Rattle.log_exchange.specs.Laws.{IsNoLower, KeptServesLater, NeededAppends, NeededStays, NeedSame}
use Rattle.site_ledger.specs.Ledger.{Base, IsLedgerOf, IsSameSite, LedgerData, StandsOn, intake_in, log_in}
use Rattle.time_table.specs.Table.{TableData, merged_with, raised, time_at}
use Rattle.site_node.specs.Node.{Becomes, BecomesAt, IsNodeOf, SiteData, clock_in, node_in}
use Rattle.site_node.proofs.Tables.{merged_no_lower, raised_no_lower}

abbrev pub parts_of : PlanData → TableData → LedgerData → SiteData
parts_of plan t l = record { plan = plan; table = t.times; ledger = l }

-- one change behind another
pub becomes_then : (b : Base) (s t u : SiteData) (f g : Node → Node) → BecomesAt b s t f → BecomesAt b t u g → BecomesAt b s u (λ n. g (f n))
becomes_then b s t u f g first second = record { stands = second.stands; node = second.node ∙ ap g first.node }

module _ (plan : PlanData) (t t' : TableData) (site : ℕ) (l l' : LedgerData) (counted : t.count ≡ count_of plan) (here : l.site ≡ site) where
  -- the own time is raised
  raised_times : (time : ℕ) → t' ≡ raised t site site time → time_at t site site ≤ time → t'.times ≡ put (count_of plan) t.times l.site l.site time
  raised_times time is later =
      ap (λ x. x.times) is
      ∙ ap (λ x. put t.count t.times site site x) (max-eq_right later)
      ∙ ap (λ c. put c t.times site site time) counted
      ∙ ap (λ s. put (count_of plan) t.times s s time) (sym here)

  raised_lower : (time : ℕ) → t' ≡ raised t site site time → IsNoLower t.times t'.times
  raised_lower time is = subst (λ x. IsNoLower t.times x.times) (sym is) (raised_no_lower t.times (site * t.count + site) time)

  -- the clock of the parts
  own_time_at : time_at t site site ≡ clock_in (parts_of plan t l)
  own_time_at = ap (λ c. at c t.times site site) counted ∙ ap (λ x. at (count_of plan) t.times x x) (sym here)

  -- the log goes on, and the clock with it
  pub moved : KeptServesLater → IsSameSite l l' → (time : ℕ) → t' ≡ raised t site site time → time_at t site site ≤ time
      → (b : Base) (log : List Record) → log_in b l' ≡ log → IsLedgerOf b l' → IsNodeOf b (parts_of plan t l)
      → IsNodeOf b (parts_of plan t' l') × (node_in b (parts_of plan t' l') ≡ with_clock plan (record { site = l.site; log = log; table = t.times }) time)
  moved serves same time is later b log grown stands h = (
    record { ledger = stands; needs = serves (count_of plan) t.times t'.times b.kept b.log (raised_lower time is) h.needs },
    ap (λ s. record { site = s; log = log_in b l'; table = t'.times }) same.site
        ∙ ap (λ x. record { site = l.site; log = x; table = t'.times }) grown
        ∙ ap (λ x. record { site = l.site; log = log; table = x }) (raised_times time is later),
  )

  -- one more own record, whose time becomes the clock
  pub recorded : KeptServesLater → IsSameSite l l' → (time : ℕ) → t' ≡ raised t site site time → time_at t site site ≤ time
      → (b : Base) (r : Record) → l'.added ≡ l.added ++ r ∷ [] → IsLedgerOf b l' → IsNodeOf b (parts_of plan t l)
      → IsNodeOf b (parts_of plan t' l') × (node_in b (parts_of plan t' l') ≡ with_clock plan (with_record (node_in b (parts_of plan t l)) r) time)
  recorded serves same time is later b r added stands h =
      moved serves same time is later b (log_in b l ++ r ∷ []) (ap (λ rs. b.log ++ rs) added ∙ sym (append_assoc b.log l.added (r ∷ []))) stands h

  pub committed : KeptServesLater → IsSameSite l l' → (time : ℕ) → t' ≡ raised t site site time → time ≡ clock_in (parts_of plan t l) + 1
      → (id : TxnId) → l'.added ≡ l.added ++ Commit id time ∷ [] → StandsOn l l' → Becomes (parts_of plan t l) (parts_of plan t' l') (λ n. commit_one plan n id)
  committed serves same time is next id added stands b h =
      let own : time_at t site site ≡ clock_in (parts_of plan t l) = own_time_at in
      let both = recorded serves same time is (omega arith) b (Commit id time) added (stands b h.ledger) h in
      record { stands = both.0; node = both.1 ∙ ap (λ x. with_clock plan (with_record (node_in b (parts_of plan t l)) (Commit id x)) x) next }

  pub entered_parts : KeptServesLater → IsSameSite l l' → (p : Transaction) → t' ≡ raised t site site p.id.time → clock_in (parts_of plan t l) ≤ p.id.time
      → l'.added ≡ l.added ++ Prepare p ∷ [] → (b : Base) → IsLedgerOf b l' → IsNodeOf b (parts_of plan t l)
      → BecomesAt b (parts_of plan t l) (parts_of plan t' l') (λ n. entered plan n p)
  entered_parts serves same p is later added b stands h =
      let own : time_at t site site ≡ clock_in (parts_of plan t l) = own_time_at in
      let both = recorded serves same p.id.time is (omega arith) b (Prepare p) added stands h in
      record { stands = both.0; node = both.1 }

  -- a message's records are taken, and the clock goes on with the Aborts
  pub taken_parts : KeptServesLater → IsSameSite l l' → (clock' : ℕ) → t' ≡ raised t site site clock' → clock_in (parts_of plan t l) ≤ clock' → (records : List Record)
      → (b : Base) → IsLedgerOf b l' → intake_in b l' clock' ≡ take_all l.site (time_at t l.site) (intake_in b l (clock_in (parts_of plan t l))) records
      → IsNodeOf b (parts_of plan t l) → BecomesAt b (parts_of plan t l) (parts_of plan t' l') (λ n. with_records plan n records)
  taken_parts serves same clock' is later records b stands took h =
      let own : time_at t site site ≡ clock_in (parts_of plan t l) = own_time_at in
      let both = moved serves same clock' is (omega arith) b (log_in b l') refl stands h in
      record {
        stands = both.0;
        node = both.1 ∙ ap (with_intake plan (node_in b (parts_of plan t l)))
            (took ∙ ap (λ c. take_all l.site (at c t.times l.site) (intake_in b l (clock_in (parts_of plan t l))) records) counted);
      }

-- the clock goes on
pub advanced_parts : KeptServesLater → (plan : PlanData) (t t' : TableData) (site : ℕ) (l : LedgerData) → t.count ≡ count_of plan → l.site ≡ site
    → (reading time : ℕ) → time ≡ max (clock_in (parts_of plan t l)) (clamp reading) → t' ≡ raised t site site time
    → Becomes (parts_of plan t l) (parts_of plan t' l) (λ n. advanced plan n reading)
advanced_parts serves plan t t' site l counted here reading time next is b h =
    let own : time_at t site site ≡ clock_in (parts_of plan t l) = own_time_at plan t t' site l l counted here in
    let low : time_at t site site ≤ time = omega arith in
    let both = moved plan t t' site l l counted here serves (record { count = refl; site = refl }) time is low b (log_in b l) refl h.ledger h in
    record { stands = both.0; node = both.1 ∙ ap (with_clock plan (node_in b (parts_of plan t l))) next }

-- a message's times are taken
pub merged_parts : KeptServesLater → (plan : PlanData) (t t' : TableData) (site : ℕ) (l : LedgerData) → t.count ≡ count_of plan → l.site ≡ site → length t.times ≡ t.count * t.count
    → (theirs cover : List ℕ) → t' ≡ merged_with t site theirs cover
    → Becomes (parts_of plan t l) (parts_of plan t' l) (λ n. record { site = n.site; log = n.log; table = merged (count_of plan) n.site n.table theirs cover })
merged_parts serves plan t t' site l counted here square theirs cover is b h = record {
  stands = record {
    ledger = h.ledger;
    needs = serves (count_of plan) t.times t'.times b.kept b.log
        (subst (λ x. IsNoLower t.times x.times) (sym is) (merged_no_lower t.count site t.times theirs cover square)) h.needs;
  };
  node =
      ap (λ x. record { site = l.site; log = log_in b l; table = x })
      (ap (λ x. x.times) is ∙ ap (λ c. merged c site t.times theirs cover) counted ∙ ap (λ s. merged (count_of plan) s t.times theirs cover) (sym here));
}

-- at the end of a step what is kept is what some site needs
pub finished_needs : NeededStays → NeededAppends → (plan : PlanData) (table : List ℕ) (l : LedgerData) (kept : List Record) (b : Base)
    → kept ≡ needed (count_of plan) table l.kept → IsNodeOf b (record { plan = plan; table = table; ledger = l })
    → NeedSame (count_of plan) table kept (log_in b l)
finished_needs stays appends plan table l kept b is h =
    ap (needed (count_of plan) table) is
    ∙ stays (count_of plan) table l.kept
    ∙ ap (needed (count_of plan) table) h.ledger.kept
    ∙ appends (count_of plan) table b.kept l.added
    ∙ ap (λ rs. rs ++ needed (count_of plan) table l.added) h.needs
    ∙ sym (appends (count_of plan) table b.log l.added)
