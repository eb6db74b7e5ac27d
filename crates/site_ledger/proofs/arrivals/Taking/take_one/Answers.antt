use Rattle.std.proofs.Common.{◌≡◌, ◌∙◌, sym, subst, ◌<◌, ◌≤◌, true, false, nat_eq}
use Rattle.helios_model.specs.Log.{origin, own_time}
use Rattle.helios_model.specs.Exchange.{is_passed}
use Rattle.time_table.specs.Table.{time_at}
use Rattle.site_ledger.proofs.Arriving.{earlier_of, goes_itself, new_becomes, not_passed, passed_becomes, passed_known, passed_own}
use Rattle.site_ledger.proofs.arrivals.Taking.take_one.Goals as goal

pub returns-then-eq : goal.returns-then-eq
returns-then-eq c =
    let own : nat_eq (origin c.args.r) c.args.self.ledger.site ≡ true = (λ i. nat_eq (sym c.origin-origin.ensures i) (sym c.site-own.ensures.value i)) ∙ sym c.eq.ensures ∙ c.if-eq.true in
    record {
      taken = λ b h may. passed_becomes b c.args.self.ledger c.args.self.clock c.args.self.ledger.site (time_at c.args.t.now c.args.self.ledger.site) c.args.r h
          (passed_own c.args.self.ledger.site (time_at c.args.t.now c.args.self.ledger.site) c.args.r own);
      goes = goes_itself c.args.self.ledger c.args.self.clock c.requires.bounded;
    }

pub returns-then-time-known : goal.returns-then-time-known
returns-then-time-known c =
    let made : c.half_micros-time.result ≡ own_time c.args.r = c.half_micros-time.ensures ∙ c.own_time.ensures in
    let told : c.half_micros-known.result ≡ time_at c.args.t.now c.args.self.ledger.site (origin c.args.r) = c.half_micros-known.ensures ∙ c.get.ensures ∙ (λ i. time_at c.args.t.now (c.site-own.ensures.value i) (c.origin-origin.ensures i)) in
    let low : own_time c.args.r ≤ time_at c.args.t.now c.args.self.ledger.site (origin c.args.r) =
    subst (λ n. own_time c.args.r ≤ n) told (subst (λ n. n ≤ c.half_micros-known.result) made c.if-time-known.true) in
    record {
      taken = λ b h may. passed_becomes b c.args.self.ledger c.args.self.clock c.args.self.ledger.site (time_at c.args.t.now c.args.self.ledger.site) c.args.r h
          (passed_known c.args.self.ledger.site (time_at c.args.t.now c.args.self.ledger.site) c.args.r low);
      goes = goes_itself c.args.self.ledger c.args.self.clock c.requires.bounded;
    }

pub take_new-requires : goal.take_new-requires
take_new-requires c =
    let other : nat_eq (origin c.args.r) c.args.self.ledger.site ≡ false = (λ i. nat_eq (sym c.origin-origin.ensures i) (sym c.site-own.ensures.value i)) ∙ sym c.eq.ensures ∙ c.if-eq.false in
    let made : c.half_micros-time.result ≡ own_time c.args.r = c.half_micros-time.ensures ∙ c.own_time.ensures in
    let told : c.half_micros-known.result ≡ time_at c.args.t.now c.args.self.ledger.site (origin c.args.r) = c.half_micros-known.ensures ∙ c.get.ensures ∙ (λ i. time_at c.args.t.now (c.site-own.ensures.value i) (c.origin-origin.ensures i)) in
    let above : time_at c.args.t.now c.args.self.ledger.site (origin c.args.r) < own_time c.args.r =
    subst (λ n. n < own_time c.args.r) told (subst (λ n. c.half_micros-known.result < n) made c.if-time-known.false) in
    let new : is_passed c.args.self.ledger.site (time_at c.args.t.now c.args.self.ledger.site) c.args.r ≡ false =
    not_passed c.args.self.ledger.site (time_at c.args.t.now c.args.self.ledger.site) c.args.r other above in
    record {
      origin = subst (λ n. origin c.args.r < n) (sym c.requires.count) c.requires.origin;
      after = earlier_of c.args.self.ledger.site (time_at c.args.t.now c.args.self.ledger.site) c.args.self.ledger c.args.r new c.requires.after;
      bounded = c.requires.bounded;
    }

pub returns : goal.returns
returns c =
    let other : nat_eq (origin c.args.r) c.args.self.ledger.site ≡ false = (λ i. nat_eq (sym c.origin-origin.ensures i) (sym c.site-own.ensures.value i)) ∙ sym c.eq.ensures ∙ c.if-eq.false in
    let made : c.half_micros-time.result ≡ own_time c.args.r = c.half_micros-time.ensures ∙ c.own_time.ensures in
    let told : c.half_micros-known.result ≡ time_at c.args.t.now c.args.self.ledger.site (origin c.args.r) = c.half_micros-known.ensures ∙ c.get.ensures ∙ (λ i. time_at c.args.t.now (c.site-own.ensures.value i) (c.origin-origin.ensures i)) in
    let above : time_at c.args.t.now c.args.self.ledger.site (origin c.args.r) < own_time c.args.r =
    subst (λ n. n < own_time c.args.r) told (subst (λ n. c.half_micros-known.result < n) made c.if-time-known.false) in
    let new : is_passed c.args.self.ledger.site (time_at c.args.t.now c.args.self.ledger.site) c.args.r ≡ false =
    not_passed c.args.self.ledger.site (time_at c.args.t.now c.args.self.ledger.site) c.args.r other above in
    record {
      taken = λ b h may.
          new_becomes b c.args.self.ledger c.in_ok-taking.taking.ledger c.args.self.clock c.in_ok-taking.taking.clock c.args.self.ledger.site (time_at c.args.t.now c.args.self.ledger.site) c.args.r new
          (c.in_ok-taking.ensures.taken b h (may new));
      goes = c.in_ok-taking.ensures.goes;
    }
