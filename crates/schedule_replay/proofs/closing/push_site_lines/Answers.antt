use Rattle.std.proofs.Common.{◌≡◌, ◌∙◌, ap, sym, subst, ◌<◌, ◌++◌, arith}
use Rattle.std.specs.List.{flat_map, range_with_len}
use Rattle.helios_model.specs.Plans.{count_of}
use Rattle.helios_model.specs.World.{node_of}
use Rattle.disk_store.specs.Memory.{empty_disk}
use Rattle.schedule_replay.specs.Report.{site_line}
use Rattle.schedule_replay.specs.Walks.{IsSeat}
use Rattle.std.proofs.Common.{slice_index_or}
use Rattle.schedule_replay.proofs.Ending.{site_more}
use Rattle.schedule_replay.proofs.closing.push_site_lines.Goals as goal

pub loop-site-preserved : goal.loop-site-preserved
loop-site-preserved c = λ p bench h.
    let low : c.loop-site.site < count_of c.args.plan.now = omega (arith, c.count-site-end.ensures.value) in
    site_more c.batch_moves_one_node.ensures c.args.plan.now p.world c.loop-site.site c.summary_of.result c.args.text.now.items c.loop-site.text.items c.push_site_line.new.text.items
    (c.summary_of.ensures c.args.plan.now p c.loop-site.site (slice_index_or bench c.loop-site.site empty_disk)
    (subst (λ o. IsSeat c.args.plan.now p c.loop-site.site o (slice_index_or bench c.loop-site.site empty_disk)) (sym c.index-hosts-site.is)
    (h c.loop-site.site c.index-hosts-site.result empty_disk low)))
    c.in_ok-push_site_line.ensures (c.loop-site.invariant p bench h)

pub returns : goal.returns
returns c = λ p bench h.
    let all : c.loop-site.site ≡ count_of c.args.plan.now = omega (arith, c.count-site-end.ensures.value) in
    c.loop-site.invariant p bench h
    ∙ ap (λ k. c.args.text.now.items ++ flat_map (λ site. site_line c.args.plan.now (node_of c.args.plan.now p.world site)) (range_with_len 0 k)) all
