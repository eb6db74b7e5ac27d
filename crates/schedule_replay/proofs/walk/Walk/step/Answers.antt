use Rattle.std.proofs.Common.{if◌then◌else◌, ◌≡◌, ◌∙◌, ap, sym, subst, ◌+◌, ◌<◌, ◌++◌, [], ◌∷◌, List, Some, None, inl, Ok, Err, refl, get_or, set, length}
use Rattle.std.proofs.lemmas.List.{append-nil, set-set}
use Rattle.schedule_text.specs.declared.steps.Step.{Step}
use Rattle.schedule_text.specs.Steps.{IsStep}
use Rattle.schedule_replay.specs.Progress.{progress, site_of}
use Rattle.schedule_replay.specs.Refusals.{refusal_of}
use Rattle.schedule_replay.specs.Seats.{BenchBetween}
use Rattle.schedule_replay.specs.contracts.walk.Walk.{the_view}
use Rattle.schedule_replay.specs.declared.output.Output.{Output}
use Rattle.schedule_replay.specs.declared.walk.Walk.{Walk}
use Rattle.schedule_replay.specs.Walks.{IsWalkAt, RefusesAs}
use Rattle.schedule_replay.specs.WalkStates.{WalkState}
use Rattle.schedule_replay.proofs.Walking.{Joined, bench_between, bench_stands, held_at, refuses_none, refuses_some, taken_between, unnamed, walk_joined, walk_part}
use Rattle.schedule_replay.proofs.walk.Walk.step.Goals as goal
use Rattle.schedule_replay.proofs.walk.Walk.step.Goals.{else-are_new, then-are_new+in_ok-append}

pub take_step-requires : goal.take_step-requires
take_step-requires c =
    let walk : WalkState = the_view c.self.inside in
    let view : walk ≡ c.args.self = c.self.view_is in
    let steps : List Step = c.requires.stands.0 in
    let h = c.requires.stands.1 in
    let here : IsWalkAt walk.plan steps walk c.args.bench.now = subst (λ (w : WalkState). IsWalkAt w.plan steps w c.args.bench.now) (sym view) h in
    let planned : IsStep walk.plan c.args.step.now = subst (λ (w : WalkState). IsStep w.plan c.args.step.now) (sym view) c.requires.planned in
    let unrefused : refusal_of (progress walk.plan steps) c.args.step.now ≡ None = (sym (c.step_refusal.ensures (progress walk.plan steps) here.stands.written here.stands.counted (c.as_slice.ensures.value ∙ here.stands.released)) ∙ c.in_default.is) in (
      steps,
      walk_part walk.plan steps c.args.step.now walk c.args.bench.now c.take-held.result c.disk-disk.result.now c.self.inside.output c.self.invariant.0 planned unrefused here
          (record { sent = refl; commits = refl; text = refl; refusals = refl; volume = refl })
          (held_at walk.hosts c.number-place.result c.site_of-site.result (site_of c.args.step.now) c.index_mut.result.now c.take-held.result c.number-place.ensures.value c.site_of-site.ensures c.index_mut.ensures.value c.take-held.ensures.value)
          (c.disk-disk.ensures.disk ∙ ap (λ k. get_or c.args.bench.now k c.disk-disk.result.now) c.site_of-site.ensures),
    )

pub returns-in-Some-clause-refused : goal.returns-in-Some-clause-refused
returns-in-Some-clause-refused c = λ steps h.
    let walk : WalkState = the_view c.self.inside in
    let view : walk ≡ c.args.self = c.self.view_is in
    let here : IsWalkAt walk.plan steps walk c.args.bench.now = subst (λ (w : WalkState). IsWalkAt w.plan steps w c.args.bench.now) (sym view) h in
    let found : refusal_of (progress walk.plan steps) c.args.step.now ≡ Some c.in-Some.refusal =
    sym (c.step_refusal.ensures (progress walk.plan steps) here.stands.written here.stands.counted (c.as_slice.ensures.value ∙ here.stands.released)) ∙ c.in-Some.is in
    subst (λ (w : WalkState). RefusesAs {T = Walk} (refusal_of (progress w.plan steps) c.args.step.now) (Err c.in-Some.refusal)) view (refuses_some Walk (refusal_of (progress walk.plan steps) c.args.step.now) c.in-Some.refusal found)

pub returns-in-Some-clause-no_memory : goal.returns-in-Some-clause-no_memory
returns-in-Some-clause-no_memory c = λ is steps h site d low. inl (bench_stands c.args.self.plan steps c.args.self c.args.bench.now h site d low)

pub returns-in_err-host-clause-refused : goal.returns-in_err-host-clause-refused
returns-in_err-host-clause-refused c = λ steps h.
    let walk : WalkState = the_view c.self.inside in
    let view : walk ≡ c.args.self = c.self.view_is in
    let here : IsWalkAt walk.plan steps walk c.args.bench.now = subst (λ (w : WalkState). IsWalkAt w.plan steps w c.args.bench.now) (sym view) h in
    let unrefused : refusal_of (progress walk.plan steps) c.args.step.now ≡ None = (sym (c.step_refusal.ensures (progress walk.plan steps) here.stands.written here.stands.counted (c.as_slice.ensures.value ∙ here.stands.released)) ∙ c.in_default.is) in
    subst (λ (w : WalkState). RefusesAs {T = Walk} (refusal_of (progress w.plan steps) c.args.step.now) c.from_residual.result) view
    (refuses_none Walk (refusal_of (progress walk.plan steps) c.args.step.now) c.from_residual.result unrefused (unnamed Walk c.from_residual.result c.from_residual.ensures.1))

pub returns-in_err-host-clause-unmoved : goal.returns-in_err-host-clause-unmoved
returns-in_err-host-clause-unmoved c = λ named. absurd (unnamed Walk c.from_residual.result c.from_residual.ensures.1 named)

pub returns-in_err-host-clause-no_memory : goal.returns-in_err-host-clause-no_memory
returns-in_err-host-clause-no_memory c = λ is steps h.
    let walk : WalkState = the_view c.self.inside in
    let view : walk ≡ c.args.self = c.self.view_is in
    let here : IsWalkAt walk.plan steps walk c.args.bench.now = subst (λ (w : WalkState). IsWalkAt w.plan steps w c.args.bench.now) (sym view) h in
    let planned : IsStep walk.plan c.args.step.now = subst (λ (w : WalkState). IsStep w.plan c.args.step.now) (sym view) c.requires.planned in
    let unrefused : refusal_of (progress walk.plan steps) c.args.step.now ≡ None = (sym (c.step_refusal.ensures (progress walk.plan steps) here.stands.written here.stands.counted (c.as_slice.ensures.value ∙ here.stands.released)) ∙ c.in_default.is) in
    subst (λ (w : WalkState). BenchBetween w.plan (progress w.plan steps) c.args.step.now (set c.args.bench.now c.site_of-site.result c.take_step.new.disk)) view
    (bench_between walk.plan steps c.args.step.now walk c.args.bench.now (set c.args.bench.now c.site_of-site.result c.take_step.new.disk) c.take_step.new.disk here
    (c.in_err-host.ensures.between steps
    (walk_part walk.plan steps c.args.step.now walk c.args.bench.now c.take-held.result c.disk-disk.result.now c.self.inside.output c.self.invariant.0 planned unrefused here
    (record { sent = refl; commits = refl; text = refl; refusals = refl; volume = refl })
    (held_at walk.hosts c.number-place.result c.site_of-site.result (site_of c.args.step.now) c.index_mut.result.now c.take-held.result c.number-place.ensures.value c.site_of-site.ensures c.index_mut.ensures.value c.take-held.ensures.value)
    (c.disk-disk.ensures.disk ∙ ap (λ k. get_or c.args.bench.now k c.disk-disk.result.now) c.site_of-site.ensures)))
    (ap (λ k. set c.args.bench.now k c.take_step.new.disk) c.site_of-site.ensures)
    (subst (λ k. k < length c.args.bench.now) c.site_of-site.ensures c.disk-disk.ensures.held))

-- the walk behind the step
abbrev after : (c : goal.Joined-drop) → WalkState
after c = record {
  plan = c.self.inside.plan;
  hosts = set (set c.self.inside.hosts.items c.number-place.result c.take-held.new.self) c.number-place.result (Some c.in_ok-host.field-0.host);
  sent = c.if-are_new.output.sent.items;
  commits = c.if-are_new.output.commits.items;
  text = c.if-are_new.output.text.items;
  refusals = c.if-are_new.output.refusals;
  number = c.self.inside.number + 1;
  volume = c.if-are_new.output.volume;
}

pub returns-clause-goes_on : goal.returns-clause-goes_on
returns-clause-goes_on c = λ steps h.
    let walk : WalkState = the_view c.self.inside in
    let view : walk ≡ c.args.self = c.self.view_is in
    let here : IsWalkAt walk.plan steps walk c.args.bench.now = subst (λ (w : WalkState). IsWalkAt w.plan steps w c.args.bench.now) (sym view) h in
    let planned : IsStep walk.plan c.args.step.now = subst (λ (w : WalkState). IsStep w.plan c.args.step.now) (sym view) c.requires.planned in
    let unrefused : refusal_of (progress walk.plan steps) c.args.step.now ≡ None = (sym (c.step_refusal.ensures (progress walk.plan steps) here.stands.written here.stands.counted (c.as_slice.ensures.value ∙ here.stands.released)) ∙ c.in_default.is) in
    let joined : Joined (after c) c.take_step.new.output c.in_ok-host.field-0 = elim c.if-are_new.branch [
      | then-are_new+in_ok-append w ↦ record {
        sent = ap (λ (o : Output). o.sent.items) w.output-is;
        commits = ap (λ (o : Output). o.commits.items) w.output-is ∙ w.in_ok-append.ensures.items ∙ ap (λ es. c.take_step.new.output.commits.items ++ es) w.into_items.ensures
            ∙ ap (λ k. c.take_step.new.output.commits.items ++ (if k then c.in_ok-host.field-0.commits else [])) (sym w.if-are_new.true);
        text = ap (λ (o : Output). o.text.items) w.output-is;
        refusals = ap (λ (o : Output). o.refusals) w.output-is;
        volume = ap (λ (o : Output). o.volume) w.output-is;
      }
      | else-are_new w ↦ record {
        sent = ap (λ (o : Output). o.sent.items) w.output-is;
        commits = ap (λ (o : Output). o.commits.items) w.output-is ∙ sym (append-nil c.take_step.new.output.commits.items)
            ∙ ap (λ k. c.take_step.new.output.commits.items ++ (if k then c.in_ok-host.field-0.commits else [])) (sym w.if-are_new.false);
        text = ap (λ (o : Output). o.text.items) w.output-is;
        refusals = ap (λ (o : Output). o.refusals) w.output-is;
        volume = ap (λ (o : Output). o.volume) w.output-is;
      }
    ] in
    subst (λ (w : WalkState). IsWalkAt w.plan (steps ++ c.args.step.now ∷ []) (after c) (set c.args.bench.now c.site_of-site.result c.take_step.new.disk)) view
    (walk_joined c.each_record_is_spellable.ensures c.each_sent_is_message.ensures walk.plan steps c.args.step.now walk (after c) c.args.bench.now (set c.args.bench.now c.site_of-site.result c.take_step.new.disk)
    c.in_ok-host.field-0 c.take_step.new.disk c.take_step.new.output c.self.invariant.0 planned unrefused here
    (c.in_ok-host.ensures.placed steps
    (walk_part walk.plan steps c.args.step.now walk c.args.bench.now c.take-held.result c.disk-disk.result.now c.self.inside.output c.self.invariant.0 planned unrefused here
    (record { sent = refl; commits = refl; text = refl; refusals = refl; volume = refl })
    (held_at walk.hosts c.number-place.result c.site_of-site.result (site_of c.args.step.now) c.index_mut.result.now c.take-held.result c.number-place.ensures.value c.site_of-site.ensures c.index_mut.ensures.value c.take-held.ensures.value)
    (c.disk-disk.ensures.disk ∙ ap (λ k. get_or c.args.bench.now k c.disk-disk.result.now) c.site_of-site.ensures)))
    joined
    refl
    (set-set c.self.inside.hosts.items c.number-place.result c.take-held.new.self (Some c.in_ok-host.field-0.host)
    ∙ ap (λ k. set c.self.inside.hosts.items k (Some c.in_ok-host.field-0.host)) (c.number-place.ensures.value ∙ c.site_of-site.ensures))
    refl
    (ap (λ k. set c.args.bench.now k c.take_step.new.disk) c.site_of-site.ensures)
    (subst (λ k. k < length c.args.bench.now) c.site_of-site.ensures c.disk-disk.ensures.held))

pub returns-clause-refused : goal.returns-clause-refused
returns-clause-refused c = λ steps h.
    let walk : WalkState = the_view c.self.inside in
    let view : walk ≡ c.args.self = c.self.view_is in
    let here : IsWalkAt walk.plan steps walk c.args.bench.now = subst (λ (w : WalkState). IsWalkAt w.plan steps w c.args.bench.now) (sym view) h in
    let unrefused : refusal_of (progress walk.plan steps) c.args.step.now ≡ None = (sym (c.step_refusal.ensures (progress walk.plan steps) here.stands.written here.stands.counted (c.as_slice.ensures.value ∙ here.stands.released)) ∙ c.in_default.is) in
    subst (λ (w : WalkState). RefusesAs {T = Walk} (refusal_of (progress w.plan steps) c.args.step.now) (Ok (after c))) view
    (refuses_none Walk (refusal_of (progress walk.plan steps) c.args.step.now) (Ok (after c)) unrefused (λ named. named))

pub returns-in_err-append-clause-refused : goal.returns-in_err-append-clause-refused
returns-in_err-append-clause-refused c = λ steps h.
    let walk : WalkState = the_view c.self.inside in
    let view : walk ≡ c.args.self = c.self.view_is in
    let here : IsWalkAt walk.plan steps walk c.args.bench.now = subst (λ (w : WalkState). IsWalkAt w.plan steps w c.args.bench.now) (sym view) h in
    let unrefused : refusal_of (progress walk.plan steps) c.args.step.now ≡ None = (sym (c.step_refusal.ensures (progress walk.plan steps) here.stands.written here.stands.counted (c.as_slice.ensures.value ∙ here.stands.released)) ∙ c.in_default.is) in
    subst (λ (w : WalkState). RefusesAs {T = Walk} (refusal_of (progress w.plan steps) c.args.step.now) c.from_residual-in_err-append.result) view
    (refuses_none Walk (refusal_of (progress walk.plan steps) c.args.step.now) c.from_residual-in_err-append.result unrefused (unnamed Walk c.from_residual-in_err-append.result c.from_residual-in_err-append.ensures.1))

pub returns-in_err-append-clause-unmoved : goal.returns-in_err-append-clause-unmoved
returns-in_err-append-clause-unmoved c = λ named. absurd (unnamed Walk c.from_residual-in_err-append.result c.from_residual-in_err-append.ensures.1 named)

pub returns-in_err-append-clause-no_memory : goal.returns-in_err-append-clause-no_memory
returns-in_err-append-clause-no_memory c = λ is steps h.
    let walk : WalkState = the_view c.self.inside in
    let view : walk ≡ c.args.self = c.self.view_is in
    let here : IsWalkAt walk.plan steps walk c.args.bench.now = subst (λ (w : WalkState). IsWalkAt w.plan steps w c.args.bench.now) (sym view) h in
    let planned : IsStep walk.plan c.args.step.now = subst (λ (w : WalkState). IsStep w.plan c.args.step.now) (sym view) c.requires.planned in
    let unrefused : refusal_of (progress walk.plan steps) c.args.step.now ≡ None = (sym (c.step_refusal.ensures (progress walk.plan steps) here.stands.written here.stands.counted (c.as_slice.ensures.value ∙ here.stands.released)) ∙ c.in_default.is) in
    subst (λ (w : WalkState). BenchBetween w.plan (progress w.plan steps) c.args.step.now (set c.args.bench.now c.site_of-site.result c.take_step.new.disk)) view
    (bench_between walk.plan steps c.args.step.now walk c.args.bench.now (set c.args.bench.now c.site_of-site.result c.take_step.new.disk) c.take_step.new.disk here
    (taken_between walk.plan steps c.args.step.now c.in_ok-host.field-0 c.take_step.new.disk c.take_step.new.output planned
    (c.in_ok-host.ensures.placed steps
    (walk_part walk.plan steps c.args.step.now walk c.args.bench.now c.take-held.result c.disk-disk.result.now c.self.inside.output c.self.invariant.0 planned unrefused here
    (record { sent = refl; commits = refl; text = refl; refusals = refl; volume = refl })
    (held_at walk.hosts c.number-place.result c.site_of-site.result (site_of c.args.step.now) c.index_mut.result.now c.take-held.result c.number-place.ensures.value c.site_of-site.ensures c.index_mut.ensures.value c.take-held.ensures.value)
    (c.disk-disk.ensures.disk ∙ ap (λ k. get_or c.args.bench.now k c.disk-disk.result.now) c.site_of-site.ensures))))
    (ap (λ k. set c.args.bench.now k c.take_step.new.disk) c.site_of-site.ensures)
    (subst (λ k. k < length c.args.bench.now) c.site_of-site.ensures c.disk-disk.ensures.held))
