-- What is known of the fields of a message once they are accepted.
use Rattle.std.proofs.Common.{◌≡◌, ℕ, zero, suc, ◌+◌, ◌<◌, ◌≤◌, ◌==◌, Bool, true, false, cond, List, [], ◌∷◌, ◌++◌, length, Result, Ok, refl, sym, subst, arith, length-append, nat_lt}
use Rattle.std.specs.Int.{w64}
use Rattle.std.proofs.lemmas.Bool.{ltb-true}
use Rattle.helios_model.specs.declared.ids.TxnId.{TxnId}
use Rattle.helios_model.specs.declared.records.Record.{Record}
use Rattle.helios_model.specs.declared.records.Record.TheVariants.{Prepare, Commit, Abort}
use Rattle.helios_model.specs.Limits.{last_time, most_sites}
use Rattle.helios_model.specs.Log.{origin}
use Rattle.helios_model.specs.Transactions.{Transaction}
use Rattle.log_records.specs.declared.faults.DecodeFault.{DecodeFault}
use Rattle.log_records.specs.declared.route.Route.{Route}
use Rattle.log_records.specs.Decoding.{Fails}
use Rattle.log_records.specs.Fields.{◌>>=◌, is_within, byte_at, number_at, each_after}
use Rattle.log_records.specs.Ids.{id_at}
use Rattle.log_records.specs.Items.{reads_at, writes_at}
use Rattle.log_records.specs.Messages.{other_at, route_at, times_at}
use Rattle.log_records.specs.Records.{prepare_behind, end_at, prepare_at, commit_at, abort_at, record_at}
use Rattle.log_records.proofs.Fields.{fails_then}
use Rattle.log_records.proofs.Differ.{bind_ok, ok_is, within, byte_ruled}

pub sites_few : (whole : ℕ) (bytes : List ℕ) (count : ℕ) (rest : List ℕ) → byte_at (is_within 2 most_sites) whole bytes ≡ Ok (count, rest) → count ≤ most_sites
sites_few whole bytes count rest e = (within 2 most_sites count (byte_ruled (is_within 2 most_sites) whole bytes (count, rest) e).0).1

pub route_few : (whole : ℕ) (bytes : List ℕ) (route : Route) (rest : List ℕ) → route_at whole bytes ≡ Ok (route, rest) → route.count ≤ most_sites
unfolding route_at
route_few whole bytes route rest e =
    let y : Route × List ℕ = (route, rest) in
    let a = bind_ok (byte_at (is_within 2 most_sites) whole bytes) (λ count. byte_at (λ b. nat_lt b count.0) whole count.1 >>= λ from. other_at count.0 from.0 whole from.1 >>= λ to. Ok (record { count = count.0; from = from.0; to = to.0 }, to.1)) y e in
    let b = bind_ok (byte_at (λ b. nat_lt b a.0.0) whole a.0.1) (λ from. other_at a.0.0 from.0 whole from.1 >>= λ to. Ok (record { count = a.0.0; from = from.0; to = to.0 }, to.1)) y a.2 in
    let d = bind_ok (other_at a.0.0 b.0.0 whole b.0.1) (λ to. Ok (record { count = a.0.0; from = b.0.0; to = to.0 }, to.1)) y b.2 in
    let made : Route × List ℕ = (record { count = a.0.0; from = b.0.0; to = d.0.0 }, d.0.1) in
    subst (λ (p : Route × List ℕ). p.0.count ≤ most_sites) (ok_is made y d.2) (sites_few whole bytes a.0.0 a.0.1 a.1)

-- ---- so many items

pub each_counted : {X : Type 0} (item : List X → List ℕ → Result (X × List ℕ) DecodeFault) (n : ℕ) (before : List X) (bytes : List ℕ) (y : List X × List ℕ) → each_after item n before bytes ≡ Ok y → length y.0 ≡ length before + n
unfolding each_after
each_counted {X} item zero before bytes y e =
    let made : List X × List ℕ = (before, bytes) in
    subst (λ (p : List X × List ℕ). length p.0 ≡ length before + 0) (ok_is made y e) (omega arith)
each_counted {X} item (suc n) before bytes y e =
    let a = bind_ok (item before bytes) (λ x. each_after item n (before ++ x.0 ∷ []) x.1) y e in
    let r = each_counted item n (before ++ a.0.0 ∷ []) a.0.1 y a.2 in
    omega (arith, r, length-append before (a.0.0 ∷ []))

pub times_long : (n whole : ℕ) (bytes times rest : List ℕ) → times_at n whole bytes ≡ Ok (times, rest) → length times ≡ n
unfolding times_at
times_long n whole bytes times rest e =
    let r = each_counted (λ before. number_at w64 (is_within 0 last_time) whole) n [] bytes (times, rest) e in
    omega (arith, r)

-- ---- the origin of a record

id_here : (count whole : ℕ) (bytes : List ℕ) (y : TxnId × List ℕ) → id_at count whole bytes ≡ Ok y → y.0.site < count
unfolding id_at
id_here count whole bytes y e =
    let a = bind_ok (byte_at (λ b. nat_lt b count) whole bytes) (λ site. number_at w64 (is_within 1 last_time) whole site.1 >>= λ time. Ok (record { site = site.0; time = time.0 }, time.1)) y e in
    let b = bind_ok (number_at w64 (is_within 1 last_time) whole a.0.1) (λ time. Ok (record { site = a.0.0; time = time.0 }, time.1)) y a.2 in
    let s = byte_ruled (λ b. nat_lt b count) whole bytes a.0 a.1 in
    let made : TxnId × List ℕ = (record { site = a.0.0; time = b.0.0 }, b.0.1) in
    subst (λ (p : TxnId × List ℕ). p.0.site < count) (ok_is made y b.2) (ltb-true a.0.0 count s.0)

same_id : (id : TxnId) (whole : ℕ) (bytes : List ℕ) (y : Transaction × List ℕ) → prepare_behind id whole bytes ≡ Ok y → y.0.id ≡ id
unfolding prepare_behind
same_id id whole bytes y e =
    let a = bind_ok (reads_at whole bytes) (λ reads. writes_at whole reads.1 >>= λ writes. Ok (record { id = id; reads = reads.0; writes = writes.0 }, writes.1)) y e in
    let b = bind_ok (writes_at whole a.0.1) (λ writes. Ok (record { id = id; reads = a.0.0; writes = writes.0 }, writes.1)) y a.2 in
    let made : Transaction × List ℕ = (record { id = id; reads = a.0.0; writes = b.0.0 }, b.0.1) in
    subst (λ (p : Transaction × List ℕ). p.0.id ≡ id) (ok_is made y b.2) refl

prepare_here : (count whole : ℕ) (bytes : List ℕ) (y : Record × List ℕ) → prepare_at count whole bytes ≡ Ok y → origin y.0 < count
unfolding prepare_at
prepare_here count whole bytes y e =
    let a = bind_ok (id_at count whole bytes) (λ id. prepare_behind id.0 whole id.1 >>= λ p. Ok (Prepare p.0, p.1)) y e in
    let b = bind_ok (prepare_behind a.0.0 whole a.0.1) (λ p. Ok (Prepare p.0, p.1)) y a.2 in
    let made : Record × List ℕ = (Prepare b.0.0, b.0.1) in
    let here = subst (λ (id : TxnId). id.site < count) (sym (same_id a.0.0 whole a.0.1 b.0 b.1)) (id_here count whole bytes a.0 a.1) in
    subst (λ (p : Record × List ℕ). origin p.0 < count) (ok_is made y b.2) here

commit_here : (count whole : ℕ) (bytes : List ℕ) (y : Record × List ℕ) → commit_at count whole bytes ≡ Ok y → origin y.0 < count
unfolding commit_at
commit_here count whole bytes y e =
    let a = bind_ok (id_at count whole bytes) (λ id. end_at id.0 whole id.1 >>= λ time. Ok (Commit id.0 time.0, time.1)) y e in
    let b = bind_ok (end_at a.0.0 whole a.0.1) (λ time. Ok (Commit a.0.0 time.0, time.1)) y a.2 in
    let made : Record × List ℕ = (Commit a.0.0 b.0.0, b.0.1) in
    subst (λ (p : Record × List ℕ). origin p.0 < count) (ok_is made y b.2) (id_here count whole bytes a.0 a.1)

abort_here : (count whole : ℕ) (bytes : List ℕ) (y : Record × List ℕ) → abort_at count whole bytes ≡ Ok y → origin y.0 < count
unfolding abort_at
abort_here count whole bytes y e =
    let a = bind_ok (id_at count whole bytes) (λ id. end_at id.0 whole id.1 >>= λ time. id_at count whole time.1 >>= λ cause. Ok (Abort id.0 time.0 cause.0, cause.1)) y e in
    let b = bind_ok (end_at a.0.0 whole a.0.1) (λ time. id_at count whole time.1 >>= λ cause. Ok (Abort a.0.0 time.0 cause.0, cause.1)) y a.2 in
    let d = bind_ok (id_at count whole b.0.1) (λ cause. Ok (Abort a.0.0 b.0.0 cause.0, cause.1)) y b.2 in
    let made : Record × List ℕ = (Abort a.0.0 b.0.0 d.0.0, d.0.1) in
    subst (λ (p : Record × List ℕ). origin p.0 < count) (ok_is made y d.2) (id_here count whole bytes a.0 a.1)

here_by_tag : (one two : Bool) (count whole : ℕ) (after : List ℕ) (y : Record × List ℕ) → cond one (prepare_at count whole after) (cond two (commit_at count whole after) (abort_at count whole after)) ≡ Ok y → origin y.0 < count
here_by_tag true two count whole after y e = prepare_here count whole after y e
here_by_tag false true count whole after y e = commit_here count whole after y e
here_by_tag false false count whole after y e = abort_here count whole after y e

pub record_here : (count whole : ℕ) (bytes : List ℕ) (r : Record) (rest : List ℕ) → record_at count whole bytes ≡ Ok (r, rest) → origin r < count
unfolding record_at
record_here count whole bytes r rest e =
    let y : Record × List ℕ = (r, rest) in
    let a = bind_ok (byte_at (is_within 1 3) whole bytes) (λ tag. cond (tag.0 == 1) (prepare_at count whole tag.1) (cond (tag.0 == 2) (commit_at count whole tag.1) (abort_at count whole tag.1))) y e in
    here_by_tag (a.0.0 == 1) (a.0.0 == 2) count whole a.0.1 y a.2

-- ---- routes

pub route_is : (whole : ℕ) (bytes : List ℕ) (count : ℕ) (second : List ℕ) (from : ℕ) (third : List ℕ) (to : ℕ) (rest : List ℕ)
    → byte_at (is_within 2 most_sites) whole bytes ≡ Ok (count, second) → byte_at (λ b. nat_lt b count) whole second ≡ Ok (from, third) → other_at count from whole third ≡ Ok (to, rest)
    → route_at whole bytes ≡ Ok (record { count = count; from = from; to = to }, rest)
unfolding route_at
route_is whole bytes count second from third to rest e f g = rw (e, f, g) refl

pub route_fails : (fault : DecodeFault) (whole : ℕ) (bytes : List ℕ) (count : ℕ) (second : List ℕ) (from : ℕ) (third : List ℕ)
    → byte_at (is_within 2 most_sites) whole bytes ≡ Ok (count, second) → byte_at (λ b. nat_lt b count) whole second ≡ Ok (from, third) → Fails fault (other_at count from whole third)
    → Fails fault (route_at whole bytes)
unfolding route_at
route_fails fault whole bytes count second from third e f g = rw (e, f) (fails_then (other_at count from whole third) (λ to. Ok (record { count = count; from = from; to = to.0 }, to.1)) fault g)
