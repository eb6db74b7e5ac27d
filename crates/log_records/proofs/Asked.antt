-- What a client asks for, read back: the keys differ within each list.
use Rattle.std.proofs.Common.{◌≡◌, ℕ, false, List, Ok, subst}
use Rattle.helios_model.specs.declared.transactions.PutItem.{PutItem}
use Rattle.helios_model.specs.declared.transactions.ReadItem.{ReadItem}
use Rattle.helios_model.specs.Transactions.{IsAsk}
use Rattle.log_records.specs.Fields.{◌>>=◌}
use Rattle.log_records.specs.Keys.{key_at, value_at}
use Rattle.log_records.specs.Items.{is_given, read_at, reads_at, put_at, puts_at}
use Rattle.log_records.proofs.Differ.{IsFresh, bind_ok, key_fresh, list_keeps, ok_is, read_fresh}

pub put_fresh : (whole : ℕ) → IsFresh (λ p. p.key) (put_at whole)
unfolding put_at
put_fresh whole before bytes y e =
    let a = bind_ok (key_at (is_given (λ (p : PutItem). p.key) before) whole bytes) (λ key. value_at whole key.1 >>= λ value. Ok (record { key = key.0; value = value.0 }, value.1)) y e in
    let b = bind_ok (value_at whole a.0.1) (λ value. Ok (record { key = a.0.0; value = value.0 }, value.1)) y a.2 in
    let made : PutItem × List ℕ = (record { key = a.0.0; value = b.0.0 }, b.0.1) in
    subst (λ (p : PutItem × List ℕ). is_given (λ (q : PutItem). q.key) before p.0.key ≡ false) (ok_is made y b.2) (key_fresh (is_given (λ (p : PutItem). p.key) before) whole bytes a.0 a.1)

-- what was read keeps the limits of what may be asked for
pub keeps_ask_limits : (whole : ℕ) (bytes : List ℕ) (reads : List ReadItem) (between : List ℕ) (puts : List PutItem) (rest : List ℕ) → reads_at whole bytes ≡ Ok (reads, between) → puts_at whole between ≡ Ok (puts, rest) → IsAsk reads puts
unfolding reads_at puts_at
keeps_ask_limits whole bytes reads between puts rest e f =
    let r = list_keeps (λ (r : ReadItem). r.key) (read_at whole) (read_fresh whole) whole bytes (reads, between) e in
    let p = list_keeps (λ (p : PutItem). p.key) (put_at whole) (put_fresh whole) whole between (puts, rest) f in
    record { few_reads = r.few; few_puts = p.few; reads_differ = r.differ; puts_differ = p.differ }
