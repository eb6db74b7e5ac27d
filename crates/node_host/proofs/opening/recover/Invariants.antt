use Rattle.std.proofs.Common.{◌≡◌, ◌-◌, ◌^◌, ◌<◌, Some, is_some, length, option_map, IfSome}
use Rattle.std.specs.Option.{ForSome}
use Rattle.disk_store.specs.Outlook.{never}
use Rattle.node_host.specs.Opening.{HasRead, IsRecovered}
use Rattle.node_host.proofs.opening.recover.Given as goal

abbrev pub invariant-frames : goal.invariant-frames
invariant-frames g l = record {
  here : ForSome (g.D.Disk.state l.disk) (λ d. l.reading.gate < length d.bytes);
  read : IfSome (g.D.Disk.state l.initial.disk) (λ d. HasRead l.fn.first.core.plan l.site d.bytes l.initial.reading.gate l.fn.first → HasRead l.fn.first.core.plan l.site d.bytes l.reading.gate l.recovery);
  recovered : IsRecovered l.fn.first.core.plan l.site l.fn.first → IsRecovered l.fn.first.core.plan l.site l.recovery;
  kept : is_some l.recovery.log ≡ is_some l.fn.first.log;
  plan : l.recovery.core.plan ≡ l.fn.first.core.plan;
  site : l.recovery.core.site ≡ l.site;
  limit : l.reading.limit ≡ l.initial.reading.limit;
  room : l.recovery.batches < l.reading.gate;
  low : l.reading.gate < 2 ^ 64;
  same : g.D.Disk.state l.disk ≡ g.D.Disk.state l.initial.disk;
  same_past : g.D.Disk.past l.disk ≡ g.D.Disk.past l.initial.disk;
  rooms : option_map (λ o. o.room) (g.D.Disk.outlook l.disk) ≡ option_map (λ o. o.room) (g.D.Disk.outlook l.initial.disk);
  keeps : g.D.Disk.keeps l.disk ≡ g.D.Disk.keeps l.initial.disk;
  steady : g.D.Disk.faults l.disk ≡ g.D.Disk.faults l.initial.disk;
  quiet : IfSome (g.D.Disk.outlook l.initial.disk) (λ o. o.failing ≡ never → g.D.Disk.outlook l.disk ≡ Some o);
}

abbrev pub decreases-frames : goal.decreases-frames
decreases-frames g l = 2 ^ 64 - l.reading.gate
