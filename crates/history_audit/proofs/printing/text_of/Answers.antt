use Rattle.std.proofs.Common.{sym, subst}
use Rattle.std.specs.Str.{IsUtf8}
use Rattle.history_audit.proofs.Printed.{key_is_text}
use Rattle.history_audit.proofs.printing.text_of.Goals as goal

pub unreachable-requires : goal.unreachable-requires
unreachable-requires c = c.in-Err.ensures.cases.0 (subst IsUtf8 (sym c.items.ensures.value) (key_is_text c.args.key.now c.items.ensures.key))
