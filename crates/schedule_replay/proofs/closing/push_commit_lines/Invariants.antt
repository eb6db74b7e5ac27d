use Rattle.std.proofs.Common.{◌≡◌, ◌++◌, drop}
use Rattle.std.specs.List.{flat_map}
use Rattle.schedule_replay.specs.Report.{commit_line}
use Rattle.schedule_replay.proofs.closing.push_commit_lines.Given as goal

abbrev pub invariant-loop-commit : goal.invariant-loop-commit
invariant-loop-commit l = l.text.items ++ flat_map commit_line (drop l.commit-index l.commits) ≡ l.initial.text.items ++ flat_map commit_line l.commits
