-- The disk of a host that was opened is ready for a batch.
use Rattle.std.proofs.Common.{◌≡◌, ap, ℕ, true, false, List, Option, Some, None, is_some, IfSome, IfOk, Result, Ok, Err}
use Rattle.std.specs.Option.{ForSome}
use Rattle.helios_model.specs.declared.entries.Entry.{Entry}
use Rattle.helios_model.specs.Plans.{PlanData}
use Rattle.disk_store.specs.Disk.{DiskState}
use Rattle.node_journal.specs.Appending.{IsReady}
use Rattle.node_host.specs.declared.fault.HostFault.{HostFault}
use Rattle.node_host.specs.declared.host.Opened.{Opened}
use Rattle.node_host.specs.States.{HostState}
use Rattle.node_host.specs.Hosts.{IsHostOn, IsOpened}
use Rattle.node_host.specs.Journals.{HoldsBatches}
use Rattle.node_host.specs.Openings.{Opens}

host_ready : (host : HostState) (batches : List (List Entry)) (disk : DiskState) → IsHostOn host batches disk → IsReady disk host.gate
host_ready host batches disk on = record { at_rest = on.at_rest; within = on.ends.read.within; closed = on.ends.closed }

pub opened_ready : (plan : PlanData) (site limit : ℕ) (old new : Option DiskState) (result : Result Opened HostFault) → is_some new ≡ is_some old
    → IfSome old (λ d. Opens plan site limit d.bytes result)
    → IfOk result (λ o. IfSome old (λ d. (batches : List (List Entry)) → HoldsBatches plan site batches d.bytes → IsOpened plan site batches o × ForSome new (IsHostOn o.host batches)))
    → IfOk result (λ o. ForSome new (λ d. IsReady d o.host.gate))
opened_ready plan site limit old new (Err fault) told ends stands = tt
opened_ready plan site limit None None (Ok o) told ends stands = λ t is. absurd (let clash : false ≡ true = ap is_some is in cc)
opened_ready plan site limit None (Some d) (Ok o) told ends stands = absurd (let clash : true ≡ false = told in cc)
opened_ready plan site limit (Some d) new (Ok o) told ends stands = λ t is. host_ready o.host ends.0 t ((stands ends.0 ends.1).1 t is)
