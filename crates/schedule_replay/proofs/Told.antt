-- Replies that are told, one after the other.
use Rattle.std.proofs.Common.{◌≡◌, ◌∙◌, ap, refl, sym, if◌then◌else◌, ℕ, ◌+◌, ◌-◌, ◌^◌, ◌<◌, min, Option, Some, None, List, [], ◌∷◌, ◌++◌, append_assoc, length, length-append, arith}
use Rattle.std.specs.Option.{option_to_list}
use Rattle.std.specs.List.{cons_option, sum_by}
use Rattle.std.proofs.lemmas.List.{append-nil}
use Rattle.std.proofs.lemmas.List.Elements.{filter_map-append}
use Rattle.std.proofs.lemmas.List.Sums.{sum_by-append}
use Rattle.helios_model.specs.declared.entries.Reply.{Reply}
use Rattle.helios_model.specs.declared.messages.Message.{Message}
use Rattle.helios_model.specs.World.{message_in}
use Rattle.schedule_replay.specs.declared.output.Output.{Output}
use Rattle.schedule_replay.specs.Progress.{message_size}
use Rattle.schedule_replay.specs.Report.{is_refusal, released_after, reply_text, step_line}
use Rattle.schedule_replay.specs.Taking.{HasTold, lines_told, messages_told}

released_first : (r : Reply) (rs : List Reply) → length (messages_told (r ∷ rs)) ≡ length (option_to_list (message_in r)) + length (messages_told rs)
released_first r rs = by_option (message_in r)
  where
    by_option : (o : Option Message) → length (cons_option o (messages_told rs)) ≡ length (option_to_list o) + length (messages_told rs)
    by_option None = omega arith
    by_option (Some m) = omega arith

pub lines_both : (number site released : ℕ) (rs qs : List Reply)
    → lines_told number site released (rs ++ qs) ≡ lines_told number site released rs ++ lines_told number site (released + length (messages_told rs)) qs
lines_both number site released [] qs = ap (λ k. lines_told number site k qs) (plus_none released)
  where
    plus_none : (k : ℕ) → k ≡ k + 0
    plus_none k = omega arith
lines_both number site released (r ∷ rs) qs =
    let line : List ℕ = step_line number site (reply_text released r) in
    let more : ℕ = released_after released r in
    ap (λ ls. line ++ ls) (lines_both number site more rs qs)
    ∙ sym (append_assoc line (lines_told number site more rs) (lines_told number site (more + length (messages_told rs)) qs))
    ∙ ap (λ k. (line ++ lines_told number site more rs) ++ lines_told number site k qs) (counts released r rs)
  where
    counts : (k : ℕ) (r : Reply) (rs : List Reply) → released_after k r + length (messages_told rs) ≡ k + length (messages_told (r ∷ rs))
    counts k r rs = omega (arith, released_first r rs)

pub told_none : (number site : ℕ) (before : Output) → before.volume < 2 ^ 64 → HasTold number site before [] before
told_none number site before low = record {
  text = sym (append-nil before.text.items);
  sent = sym (append-nil before.sent.items);
  commits = refl;
  refusals = omega arith;
  volume = omega (arith, low);
}

joined : (a b c x y : ℕ) → b ≡ min (a + x) (2 ^ 64 - 1) → c ≡ min (b + y) (2 ^ 64 - 1) → c ≡ min (a + (x + y)) (2 ^ 64 - 1)
joined a b c x y f g = omega arith

pub told_both : (number site : ℕ) (before between after : Output) (rs qs : List Reply) → HasTold number site before rs between → HasTold number site between qs after
    → HasTold number site before (rs ++ qs) after
told_both number site before between after rs qs f g =
    let start : ℕ = length before.sent.items in
    let released : length between.sent.items ≡ start + length (messages_told rs) = ap length f.sent ∙ length-append before.sent.items (messages_told rs) in
    let lines : lines_told number site start rs ++ lines_told number site (length between.sent.items) qs ≡ lines_told number site start (rs ++ qs) =
    ap (λ k. lines_told number site start rs ++ lines_told number site k qs) released ∙ sym (lines_both number site start rs qs) in
    let messages : messages_told (rs ++ qs) ≡ messages_told rs ++ messages_told qs = filter_map-append message_in rs qs in
    let sizes : sum_by message_size (messages_told (rs ++ qs)) ≡ sum_by message_size (messages_told rs) + sum_by message_size (messages_told qs) =
    ap (sum_by message_size) messages ∙ sum_by-append message_size (messages_told rs) (messages_told qs) in
    let long : length (lines_told number site start (rs ++ qs)) ≡ length (lines_told number site start rs) + length (lines_told number site (length between.sent.items) qs) =
    ap length (sym lines) ∙ length-append (lines_told number site start rs) (lines_told number site (length between.sent.items) qs) in
    record {
      text =
          g.text ∙ ap (λ t. t ++ lines_told number site (length between.sent.items) qs) f.text
          ∙ append_assoc before.text.items (lines_told number site start rs) (lines_told number site (length between.sent.items) qs)
          ∙ ap (λ t. before.text.items ++ t) lines;
      sent =
          g.sent ∙ ap (λ ms. ms ++ messages_told qs) f.sent ∙ append_assoc before.sent.items (messages_told rs) (messages_told qs)
          ∙ ap (λ ms. before.sent.items ++ ms) (sym messages);
      commits = g.commits ∙ f.commits;
      refusals = omega (arith, f.refusals, g.refusals, sum_by-append (λ r. if is_refusal r then 1 else 0) rs qs);
      volume =
          joined before.volume between.volume after.volume _ _ (f.volume ∙ ap (λ k. min k (2 ^ 64 - 1)) (regroup before.volume _ _)) (g.volume ∙ ap (λ k. min k (2 ^ 64 - 1)) (regroup between.volume _ _))
          ∙ ap (λ k. min k (2 ^ 64 - 1)) (sums before.volume _ _ _ _ _ _ long sizes);
    }
  where
    regroup : (a b c : ℕ) → a + b + c ≡ a + (b + c)
    regroup a b c = omega arith

    sums : (a b c d e f g : ℕ) → f ≡ b + d → g ≡ c + e → a + ((b + c) + (d + e)) ≡ a + f + g
    sums a b c d e f g p q = omega arith
