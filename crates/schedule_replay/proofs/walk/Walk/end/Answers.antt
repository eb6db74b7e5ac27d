use Rattle.std.proofs.Common.{◌≡◌, ◌∙◌, ap, sym, subst, ◌++◌, refl, length}
use Rattle.std.specs.List.{flat_map, range_with_len}
use Rattle.helios_model.specs.Plans.{count_of}
use Rattle.helios_model.specs.World.{node_of}
use Rattle.schedule_replay.specs.Progress.{progress}
use Rattle.schedule_replay.specs.Replay.{IsReport}
use Rattle.schedule_replay.specs.Report.{commit_line, site_line}
use Rattle.schedule_replay.specs.Standing.{AreSeats}
use Rattle.schedule_replay.specs.Walks.{IsWalkAt}
use Rattle.schedule_replay.specs.WalkStates.{WalkState}
use Rattle.schedule_replay.proofs.Ending.{report_stands}
use Rattle.schedule_replay.proofs.walk.Walk.end.Goals as goal

pub push_site_lines-requires : goal.push_site_lines-requires
push_site_lines-requires c = ap length c.as_slice-2.ensures.value ∙ c.self.invariant.1

pub returns : goal.returns
returns c = record {
  report = λ steps bench h.
      let walk : WalkState = record {
        plan = c.self.inside.plan;
        hosts = c.self.inside.hosts.items;
        sent = c.self.inside.output.sent.items;
        commits = c.self.inside.output.commits.items;
        text = c.self.inside.output.text.items;
        refusals = c.self.inside.output.refusals;
        number = c.self.inside.number;
        volume = c.self.inside.output.volume;
      } in
      let view : walk ≡ c.args.self = c.self.view_is in
      let here : IsWalkAt walk.plan steps walk bench = subst (λ (w : WalkState). IsWalkAt w.plan steps w bench) (sym view) h in
      subst (λ (w : WalkState). IsReport w.plan steps (record { text = c.new.result; commits = c.new-2.result; refusals = c.self.inside.output.refusals })) view
      (report_stands walk.plan steps walk bench (record { text = c.new.result; commits = c.new-2.result; refusals = c.self.inside.output.refusals }) here
      (c.new.ensures
      ∙ c.in_ok-push_site_lines.ensures (progress walk.plan steps) bench (subst (λ hs. AreSeats walk.plan (progress walk.plan steps) hs bench) (sym c.as_slice-2.ensures.value) here.stands.seats)
      ∙ ap (λ t. t ++ flat_map (λ k. site_line walk.plan (node_of walk.plan (progress walk.plan steps).world k)) (range_with_len 0 (count_of walk.plan)))
      (c.in_ok-push_commit_lines.ensures ∙ ap (λ es. c.self.inside.output.text.items ++ flat_map commit_line es) c.as_slice.ensures.value))
      c.new-2.ensures refl);
}
