use Rattle.std.proofs.Common.{◌≡◌, ◌∙◌, ap, sym, subst₂, map}
use Rattle.helios_model.specs.Transactions.{IsTransaction}
use Rattle.helios_model.specs.Request.{next_id, write_at}
use Rattle.site_ledger.specs.Ledger.{log_in}
use Rattle.site_node.specs.Node.{node_in}
use Rattle.commit_rules.specs.Answers.{write_in}
use Rattle.commit_rules.proofs.Looked.{writes_looked}
use Rattle.commit_rules.proofs.requests.transaction_for.Goals as goal

pub of-transaction-requires : goal.of-transaction-requires
of-transaction-requires c =
    let s = c.args.node.now in
    let b = c.requires.sound.base in
    let log = log_in b s.ledger in
    let made : c.new-writes.result ≡ map (write_at log) c.args.ask.puts =
    c.new-writes.ensures ∙ c.in_ok-writes_over.ensures
    ∙ ap (λ l. map (write_in l.store) c.into_parts-reads.result.1) c.ledger.ensures
    ∙ ap (map (write_in s.ledger.store)) c.into_parts-reads.ensures.puts
    ∙ writes_looked log s.ledger.store c.requires.sound.is.ledger.lookups.versions c.args.ask.puts in
    subst₂ IsTransaction (sym c.into_parts-reads.ensures.reads) (sym made)
    (c.asked_is_transaction.ensures log (next_id s.plan (node_in b s) c.args.reading) c.args.ask c.into_parts-reads.ensures.limits)

pub returns-clause-asked : goal.returns-clause-asked
returns-clause-asked c =
    λ b is.
    let s = c.args.node.now in
    let made : c.new-writes.result ≡ map (write_at (log_in b s.ledger)) c.args.ask.puts =
    c.new-writes.ensures ∙ c.in_ok-writes_over.ensures
    ∙ ap (λ l. map (write_in l.store) c.into_parts-reads.result.1) c.ledger.ensures
    ∙ ap (map (write_in s.ledger.store)) c.into_parts-reads.ensures.puts
    ∙ writes_looked (log_in b s.ledger) s.ledger.store is.ledger.lookups.versions c.args.ask.puts in
    c.of-transaction.ensures
    ∙ ap (λ id. record { id = id; reads = c.into_parts-reads.result.0; writes = c.new-writes.result }) (c.next_name-id.ensures.name b)
    ∙ ap (λ reads. record { id = next_id s.plan (node_in b s) c.args.reading; reads = reads; writes = c.new-writes.result }) c.into_parts-reads.ensures.reads
    ∙ ap (λ writes. record { id = next_id s.plan (node_in b s) c.args.reading; reads = c.args.ask.reads; writes = writes }) made
