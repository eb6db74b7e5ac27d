use Rattle.std.proofs.Common.{◌≡◌, ◌++◌, List}
use Rattle.std.specs.List.{flat_map, range_with_len}
use Rattle.disk_store.specs.Memory.{MemState}
use Rattle.helios_model.specs.World.{node_of}
use Rattle.schedule_replay.specs.Progress.{Progress}
use Rattle.schedule_replay.specs.Report.{site_line}
use Rattle.schedule_replay.specs.Standing.{AreSeats}
use Rattle.schedule_replay.proofs.closing.push_site_lines.Given as goal

abbrev pub invariant-loop-site : goal.invariant-loop-site
invariant-loop-site l = (p : Progress) (bench : List MemState) → AreSeats l.plan p l.hosts bench
    → l.text.items ≡ l.initial.text.items ++ flat_map (λ site. site_line l.plan (node_of l.plan p.world site)) (range_with_len 0 l.site)
