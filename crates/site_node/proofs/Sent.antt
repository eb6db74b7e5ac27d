-- Messages, by the parts of a node: what one tells, and how one is taken in.
use Rattle.std.proofs.Common.{◌≡◌, ◌∙◌, ap, sym, subst, ℕ, max, List, All}
use Rattle.helios_model.specs.declared.messages.Message.{Message}
use Rattle.helios_model.specs.declared.records.Record.{Record}
use Rattle.helios_model.specs.Exchange.{merged, sent_records}
use Rattle.helios_model.specs.Grid.{at}
use Rattle.helios_model.specs.Messages.{advanced, message_to, push, with_records, with_times}
use Rattle.helios_model.specs.Node.{clamp, clock, known}
use Rattle.helios_model.specs.Plans.{PlanData, count_of}
use Rattle.helios_model.specs.Settle.{settle}
use Rattle.time_table.specs.Table.{TableData, time_at}
use Rattle.log_exchange.specs.Kept.{cover_of}
use Rattle.log_exchange.specs.Laws.{NeedSame}
use Rattle.node_limits.specs.Laws.{ArrivingRecordsMayBeTaken}
use Rattle.node_limits.specs.Limits.{IsSoundNode, MayTake}
use Rattle.site_ledger.specs.Ledger.{Base, HasTakeable, IsLedgerOf, LedgerData, log_in}
use Rattle.site_node.specs.Node.{Becomes, BecomesAt, HasSoundNode, IsNodeOf, IsSamePlace, SiteData, node_in, row_in}
use Rattle.site_node.proofs.Steps.{parts_of}

-- what a ledger tells, by a table under which it has all that some site needs
pub record Tells (l : LedgerData) (t : TableData) (to : ℕ) (cover : List ℕ) (records : List Record) : Type 0 where
  pub told : (b : Base) → IsLedgerOf b l → NeedSame l.count t.times b.kept b.log → records ≡ sent_records (time_at t to) (log_in b l)
  pub covers : (b : Base) → IsLedgerOf b l → NeedSame l.count t.times b.kept b.log → cover ≡ cover_of l.count (time_at t l.site) (time_at t to) (log_in b l)

-- the message of a node, by what its ledger and its table tell
pub message_parts : (plan : PlanData) (t : TableData) (l : LedgerData) (site to count : ℕ) (table cover : List ℕ) (records : List Record)
    → t.count ≡ count_of plan → l.count ≡ count_of plan → l.site ≡ site → count ≡ count_of plan → table ≡ t.times → Tells l t to cover records
    → (b : Base) → IsNodeOf b (parts_of plan t l)
    → record { from = site; to = to; count = count; table = table; cover = cover; records = records } ≡ message_to plan (node_in b (parts_of plan t l)) to
message_parts plan t l site to count table cover records counted kept here counts tables tells b h =
    ap (λ s. record { from = s; to = to; count = count; table = table; cover = cover; records = records }) (sym here)
    ∙ ap (λ c. record { from = l.site; to = to; count = c; table = table; cover = cover; records = records }) counts
    ∙ ap (λ ts. record { from = l.site; to = to; count = count_of plan; table = ts; cover = cover; records = records }) tables
    ∙ ap (λ ts. record { from = l.site; to = to; count = count_of plan; table = t.times; cover = ts; records = records }) covered
    ∙ ap (λ rs. record { from = l.site; to = to; count = count_of plan; table = t.times; cover = cover_of (count_of plan) (at (count_of plan) t.times l.site) (at (count_of plan) t.times to) (log_in b l); records = rs }) sent
  where
    needs : NeedSame l.count t.times b.kept b.log
    needs = subst (λ c. NeedSame c t.times b.kept b.log) (sym kept) h.needs

    covered : cover ≡ cover_of (count_of plan) (at (count_of plan) t.times l.site) (at (count_of plan) t.times to) (log_in b l)
    covered =
        tells.covers b h.ledger needs
        ∙ ap (λ c. cover_of c (time_at t l.site) (time_at t to) (log_in b l)) kept
        ∙ ap (λ c. cover_of (count_of plan) (at c t.times l.site) (at c t.times to) (log_in b l)) counted

    sent : records ≡ sent_records (at (count_of plan) t.times to) (log_in b l)
    sent = tells.told b h.ledger needs ∙ ap (λ c. sent_records (at c t.times to) (log_in b l)) counted

-- the records that parts may take, by the table that they have
pub takeable : (plan : PlanData) (t : TableData) (l : LedgerData) (s : SiteData) (records : List Record) → record { plan = plan; table = t.times; ledger = l } ≡ s → t.count ≡ count_of plan
    → HasTakeable s.ledger.site (row_in s) s.ledger records → HasTakeable l.site (time_at t l.site) l records
takeable plan t l s records is counted h =
    subst (λ c. HasTakeable l.site (at c t.times l.site) l records) (sym counted)
    (subst (λ x. HasTakeable x.ledger.site (row_in x) x.ledger records) (sym is) h)

module _ (law : ArrivingRecordsMayBeTaken) (reading : ℕ) (s t : SiteData) (change : Becomes s t (λ n. advanced s.plan n reading)) (place : IsSamePlace s t) (records : List Record) where
  may_take : (b : Base) → IsNodeOf b s → IsSoundNode s.plan (node_in b s) → All (MayTake t.ledger.site (row_in t) (log_in b t.ledger)) records
  may_take b h sound =
      subst (λ p. All (MayTake (node_in b t).site (known p (node_in b t) (node_in b t).site) (node_in b t).log) records) (sym place.plan)
      (subst (λ n. All (MayTake n.site (known s.plan n n.site) n.log) records) (sym (change b h).node)
      (law s.plan (node_in b s) (max (clock s.plan (node_in b s)) (clamp reading)) records sound))

  -- once its clock has gone on, a sound node may take a message's records
  pub sound_takes : HasSoundNode s → HasTakeable t.ledger.site (row_in t) t.ledger records
  sound_takes h = record { base = h.base; is = (change h.base h.is).stands.ledger; may = may_take h.base h.is h.sound }

-- a message is taken in: its records, its times, and then what can commit commits
pub pushed : ArrivingRecordsMayBeTaken → (reading : ℕ) (m : Message) (s t u v w : SiteData)
    → Becomes s t (λ n. advanced s.plan n reading) → IsSamePlace s t
    → ((b : Base) → IsNodeOf b t → All (MayTake t.ledger.site (row_in t) (log_in b t.ledger)) m.records → BecomesAt b t u (λ n. with_records t.plan n m.records)) → IsSamePlace t u
    → Becomes u v (λ n. record { site = n.site; log = n.log; table = merged (count_of u.plan) n.site n.table m.table m.cover }) → IsSamePlace u v
    → Becomes v w (settle v.plan)
    → (b : Base) → IsNodeOf b s → IsSoundNode s.plan (node_in b s) → BecomesAt b s w (λ n. (push s.plan n reading m).node)
pushed law reading m s t u v w first to_t second to_u third to_v last b h sound =
    let a = first b h in
    let r = second b a.stands (may_take law reading s t first to_t m.records b h sound) in
    let x = third b r.stands in
    let y = last b x.stands in
    record {
      stands = y.stands;
      node =
          y.node
          ∙ ap (λ p. settle p (node_in b v)) (to_v.plan ∙ to_u.plan ∙ to_t.plan)
          ∙ ap (settle s.plan)
          (x.node ∙ ap (λ p. with_times p (node_in b u) m) (to_u.plan ∙ to_t.plan)
          ∙ ap (λ n. with_times s.plan n m)
          (r.node ∙ ap (λ p. with_records p (node_in b t) m.records) to_t.plan ∙ ap (λ n. with_records s.plan n m.records) a.node));
    }
