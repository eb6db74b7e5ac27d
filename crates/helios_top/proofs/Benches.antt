-- The bench that is left over what a command goes by is the one that is left over the input.
use Rattle.std.proofs.Common.{◌≡◌, false, ℕ, ◌≤◌, inl, inr, List, [], length}
use Rattle.disk_store.specs.Memory.{MemState}
use Rattle.outside_io.specs.Seen.{SourceSeen}
use Rattle.outside_io.specs.Whole.{IsWholeInput}
use Rattle.helios_top.specs.declared.replay.Told.{Told}
use Rattle.helios_top.specs.declared.replay.Told.TheVariants as told
use Rattle.helios_top.specs.declared.words.Command.{Command}
use Rattle.helios_top.specs.declared.words.Command.TheVariants.{Audit, Check, Dump, History, Plan, Replay, Trial, Weigh}
use Rattle.helios_top.specs.declared.ending.Ending.{Ending}
use Rattle.helios_top.specs.Benches.{Leaves, LeavesOver, ReplayLeavesOver}
use Rattle.helios_top.specs.Outside.{most_input_bytes}
use Rattle.helios_top.specs.Refusals.{reads_input}
use Rattle.helios_top.specs.Replays.{ReplayLeaves}

replay_left : (what : Told) (old new : SourceSeen) (bytes : List ℕ) (held left : List MemState) (ending : Ending) → IsWholeInput old.left new.left bytes
    → length bytes ≤ most_input_bytes → ReplayLeavesOver what bytes held left ending → ReplayLeaves what old new held left ending
replay_left what old new bytes held left ending whole fits (inl before) = inl before
replay_left what old new bytes held left ending whole fits (inr replayed) = inr (record { bytes = bytes; is_whole = whole; fits = fits; holds = replayed })

pub bench_left : (command : Command) (old new : SourceSeen) (bytes : List ℕ) (held left : List MemState) (ending : Ending) → IsWholeInput old.left new.left bytes
    → length bytes ≤ most_input_bytes → LeavesOver command bytes held left ending → Leaves command old new held left ending
bench_left Replay old new bytes held left ending whole fits h = replay_left told.Report old new bytes held left ending whole fits h
bench_left History old new bytes held left ending whole fits h = replay_left told.History old new bytes held left ending whole fits h
bench_left (Trial number) old new bytes held left ending whole fits h = h
bench_left Check old new bytes held left ending whole fits h = h
bench_left Plan old new bytes held left ending whole fits h = h
bench_left Audit old new bytes held left ending whole fits h = h
bench_left Weigh old new bytes held left ending whole fits h = h
bench_left (Dump site) old new bytes held left ending whole fits h = h

pub bench_unread : (command : Command) (old new : SourceSeen) (held left : List MemState) (ending : Ending) → reads_input command ≡ false
    → LeavesOver command [] held left ending → Leaves command old new held left ending
bench_unread Replay old new held left ending idle h = absurd (cc)
bench_unread History old new held left ending idle h = absurd (cc)
bench_unread (Trial number) old new held left ending idle h = h
bench_unread Check old new held left ending idle h = absurd (cc)
bench_unread Plan old new held left ending idle h = absurd (cc)
bench_unread Audit old new held left ending idle h = absurd (cc)
bench_unread Weigh old new held left ending idle h = absurd (cc)
bench_unread (Dump site) old new held left ending idle h = absurd (cc)
