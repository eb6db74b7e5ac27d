-- The rules of a request, from what its transaction meets.
use Rattle.std.proofs.Common.{◌≡◌, ◌∙◌, ap, sym, refl, Option, Some, None, List, [], ◌∷◌, map, find}
use Rattle.std.specs.Option.{option_map, option_or}
use Rattle.helios_model.specs.declared.ids.TxnId.{TxnId}
use Rattle.helios_model.specs.declared.records.Record.{Record}
use Rattle.helios_model.specs.declared.entries.Reply.{Reply}
use Rattle.helios_model.specs.declared.entries.Reply.TheVariants.{Conflict}
use Rattle.helios_model.specs.Transactions.{Asking, Transaction, conflict, keys_conflict, touched_by, touched_by_ask}
use Rattle.helios_model.specs.Log.{unfinished}
use Rattle.helios_model.specs.Node.{Node}
use Rattle.helios_model.specs.Request.{asked, clash_refusal, refusal, room_refusal, stale_refusal, write_at}

map_twice : {X Y Z : Type 0} (g : Y → Z) (f : X → Y) (xs : List X) → map g (map f xs) ≡ map (λ x. g (f x)) xs
map_twice g f [] = refl
map_twice g f (x ∷ xs) = ap (λ ys. g (f x) ∷ ys) (map_twice g f xs)

-- what a request touches is what its transaction does
pub asked_touched : (log : List Record) (id : TxnId) (ask : Asking) → touched_by (asked log id ask) ≡ touched_by_ask ask
asked_touched log id ask = ap (λ keys. record { read = map (λ r. r.key) ask.reads; written = keys }) (map_twice (λ w. w.key) (write_at log) ask.puts)

-- the first conflict of a request's transaction is that of the request
pub asked_clash : (log : List Record) (id : TxnId) (ask : Asking) (p : Transaction) (o : Option TxnId) → p ≡ asked log id ask
    → o ≡ option_map (λ q. q.id) (find (conflict p) (unfinished log)) → clash_refusal log ask ≡ option_map (λ x. Conflict x) o
asked_clash log id ask p o is first =
    clashes (find (λ q. keys_conflict (touched_by_ask ask) (touched_by q)) (unfinished log))
    ∙ ap (λ t. option_map (λ x. Conflict x) (option_map (λ q. q.id) (find (λ q. keys_conflict t (touched_by q)) (unfinished log)))) (sym (asked_touched log id ask) ∙ ap touched_by (sym is))
    ∙ ap (option_map (λ x. Conflict x)) (sym first)
  where
    clashes : (found : Option Transaction) → option_map (λ q. Conflict q.id) found ≡ option_map (λ x. Conflict x) (option_map (λ q. q.id) found)
    clashes None = refl
    clashes (Some q) = refl

-- the rules of a request, the early ones first
pub refusal_parts : (n : Node) (ask : Asking) → refusal n ask ≡ option_or (option_or (room_refusal n) (stale_refusal n.log ask)) (clash_refusal n.log ask)
refusal_parts n ask = turned (room_refusal n) (stale_refusal n.log ask) (clash_refusal n.log ask)
  where
    turned : (a b c : Option Reply) → option_or a (option_or b c) ≡ option_or (option_or a b) c
    turned None b c = refl
    turned (Some x) b c = refl
