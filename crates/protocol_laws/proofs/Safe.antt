-- What is told stays so in every later world, and what may be relied on in a world, together.
use Rattle.helios_model.specs.World.{World, Event, MayRun, first_world, happens, run}
use Rattle.protocol_laws.specs.Told.{ToldHolds, EachToldStays}
use Rattle.protocol_laws.specs.Safe.{EachWorldIsSafe}
use Rattle.protocol_laws.specs.Histories.{WorldGrowsTo}
use Rattle.std.proofs.Common.{subst, All, Contains, List, [], sym, ◌++◌, ◌∙◌, ◌∷◌, ◌≡◌}
use Rattle.std.proofs.lemmas.Grind.{fold-append}
use Rattle.std.proofs.lemmas.List.Elements.{All-contains, Contains-append_left}
use Rattle.helios_model.specs.Plans.{PlanData}
use Rattle.protocol_laws.proofs.Lists.{all_from}
use Rattle.protocol_laws.proofs.ToldLaws.{each_refusal_is_named, each_told_stands}
use Rattle.protocol_laws.proofs.ToldReplies.{each_told_is_true}
use Rattle.protocol_laws.proofs.WorldGrowth.{each_world_grows}
use Rattle.protocol_laws.proofs.WorldLaws.{each_abort_is_caused, each_world_is_honest, each_world_is_ordered, history_is_serial}
use Rattle.protocol_laws.proofs.Worlds.{first_journals, run_journals}

-- further steps after some steps are one list of steps
may_join : (plan : PlanData) (w : World) (events more : List Event) → MayRun plan w events → MayRun plan (run plan w events) more → MayRun plan w (events ++ more)
may_join plan w [] more first second = second
may_join plan w (e ∷ es) more first second = (first.0, may_join plan (happens plan w e) es more first.1 second)

-- what is told in each world holds
told_holds : (plan : PlanData) (events : List Event) → MayRun plan (first_world plan) events → All (ToldHolds plan (run plan (first_world plan) events)) (run plan (first_world plan) events).told
told_holds plan events may = λ k d low. (each_told_is_true plan events may k d low, each_told_stands plan events may k d low)

pub each_told_stays : EachToldStays
each_told_stays plan events more first second =
    let w : World = run plan (first_world plan) events in
    let v : World = run plan w more in
    let joined : run plan (first_world plan) (events ++ more) ≡ v = fold-append (happens plan) (first_world plan) events more in
    let told : All (ToldHolds plan v) v.told =
    subst (λ (x : World). All (ToldHolds plan x) x.told) joined (told_holds plan (events ++ more) (may_join plan (first_world plan) events more first second)) in
    let grows : WorldGrowsTo plan w v = each_world_grows plan w more (run_journals plan (first_world plan) events ∙ first_journals plan) in
    all_from (ToldHolds plan v) w.told (λ t there.
    All-contains (ToldHolds plan v) v.told t told
    (subst (λ ts. Contains ts t) (sym grows.told.grown) (Contains-append_left w.told grows.told.more t there)))

pub each_world_is_safe : EachWorldIsSafe
each_world_is_safe plan events may accepted = record {
  serial = history_is_serial plan events may accepted;
  named = each_refusal_is_named plan events may;
  told = each_told_is_true plan events may;
  stands = each_told_stands plan events may;
  honest = each_world_is_honest plan events may;
  ordered = each_world_is_ordered plan events may;
  caused = each_abort_is_caused plan events may;
}
