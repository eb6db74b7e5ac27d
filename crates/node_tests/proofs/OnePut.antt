-- A request that writes one key has a spelling.
use Rattle.std.proofs.Common.{◌≡◌, refl, arith, List, [], ◌∷◌, All}
use Rattle.std.proofs.lemmas.List.Elements.{All-cons, All-nil}
use Rattle.helios_model.specs.Texts.{IsKey, IsValue}
use Rattle.helios_model.specs.declared.transactions.PutItem.{PutItem}
use Rattle.helios_model.specs.declared.transactions.ReadItem.{ReadItem}
use Rattle.helios_model.specs.Transactions.{Asking}
use Rattle.helios_model.specs.Spellable.{AreSpellablePuts, IsSpellableAsk, IsSpellableVersion}

pub one_put_is_spellable : (puts : List PutItem) (p : PutItem) → puts ≡ p ∷ [] → IsKey p.key → IsValue p.value → AreSpellablePuts puts
one_put_is_spellable puts p is key value =
    rw is (record {
      few = omega arith;
      differ = refl;
      keys = All-cons (λ x. IsKey x.key) p [] key (All-nil (λ x. IsKey x.key));
      values = All-cons (λ x. IsValue x.value) p [] value (All-nil (λ x. IsValue x.value));
    })

pub one_put_is_asked : (ask : Asking) (reads : List ReadItem) (puts : List PutItem) → ask ≡ record { reads = reads; puts = puts } → reads ≡ [] → AreSpellablePuts puts → IsSpellableAsk ask
one_put_is_asked ask reads puts is none spelled =
    rw (is, none) (record {
      reads = record { few = omega arith; differ = refl; keys = All-nil (λ r. IsKey r.key); versions = All-nil (λ r. IsSpellableVersion r.version) };
      puts = spelled;
    })
