-- Keys that the last one is past.
use Rattle.std.proofs.Common.{◌≡◌, ◌≤◌, ℕ, Bool, false, List, [], ◌∷◌, map, Option, None, Some, refl, ◌∙◌, ap, arith}
use Rattle.std.specs.List.{AllByRecursion, filter, find}
use Rattle.std.specs.Prelude.{is_some}
use Rattle.eden_model.specs.Map.{with_item, or_else}
use Rattle.eden_model.specs.Traffic.{next_message}
use Rattle.invocation.specs.Mail.{Mail, is_waiting}
use Rattle.journal.specs.declared.event.Key.{Key}
use Rattle.journal.specs.World.{World, Node, node_at, site_of}
use Rattle.journal.specs.Enabled.{delivery, deliveries, is_past, node_keys, stations}
use Rattle.runs.specs.Reached.{IsReached}
use Rattle.eden_world.specs.Worlds.{numbers_from}
use Rattle.eden_world.specs.Listed.{keys_from, mail_keys, node_keys_at, keys_at}
use Rattle.eden_world.proofs.EnabledKeys.{IsAt, node-keys}
use Rattle.eden_world.proofs.KeyLists.{few-stations, find-append}

-- where none passes nothing is found
none-by : {X : Type 0} (Q : X → Type 0) (P : X → Bool) (xs : List X) → ((x : X) → Q x → P x ≡ false) → AllByRecursion Q xs
    → find P xs ≡ None
none-by Q P [] fails all = refl
none-by Q P (x ∷ xs) fails all = rw (fails x all.0) (none-by Q P xs fails all.1)

none-from : (P : Key → Bool) (to : ℕ) (ns : List ℕ) → ((from : ℕ) → P (delivery to from) ≡ false) → find P (map (delivery to) ns) ≡ None
none-from P to [] fails = refl
none-from P to (n ∷ ns) fails = rw (fails n) (none-from P to ns fails)

-- no delivery at a station
pub no-delivery : (last : Option Key) (m : Mail) (to : ℕ) (froms : List ℕ) → ((from : ℕ) → is_past last (delivery to from) ≡ false)
    → find (is_past last) (keys_from m to froms) ≡ None
no-delivery last m to froms fails = none-from (is_past last) to (filter (λ from. is_waiting from to m) froms) fails

none-waiting : (m : Mail) (to : ℕ) (froms : List ℕ) → ((from : ℕ) → from ≤ 8 → is_waiting from to m ≡ false)
    → AllByRecursion (λ n. n ≤ 8) froms → keys_from m to froms ≡ []
none-waiting m to [] none each = refl
none-waiting m to (n ∷ ns) none each = rw (none n each.0) (none-waiting m to ns none each.1)

-- no delivery at a station to which no message is on its way
pub no-mail-keys : (m : Mail) (to c : ℕ) → c ≤ 9 → ((from : ℕ) → from ≤ 8 → is_waiting from to m ≡ false) → mail_keys c m to ≡ []
no-mail-keys m to c few none = none-waiting m to (numbers_from 0 c) none (few-stations 0 c (omega (arith, few)))

pub no-mail : (P : Key → Bool) (m : Mail) (to c : ℕ) → c ≤ 9 → ((from : ℕ) → from ≤ 8 → is_waiting from to m ≡ false)
    → find P (mail_keys c m to) ≡ None
no-mail P m to c few none = ap (find P) (no-mail-keys m to c few none)

-- no key of a station
pub no-key : (last : Option Key) (w : World) (n : ℕ) → IsReached w → ((k : Key) → k.station ≡ n → is_past last k ≡ false)
    → find (is_past last) (keys_at w n) ≡ None
no-key last w n reached fails =
    find-append (is_past last) (deliveries w n) (node_keys_at w n)
    ∙ ap (λ o. or_else o (find (is_past last) (node_keys_at w n)))
    (none-from (is_past last) n (filter (λ from. is_some (next_message w.traffic from n)) (stations w))
    (λ from. fails (delivery n from) refl))
    ∙ at_node (node_at w n) refl
  where
    at_node : (o : Option Node) → node_at w n ≡ o → find (is_past last) (node_keys_at w n) ≡ None
    at_node None is = ap (λ x. find (is_past last) (with_item x (λ it. node_keys (site_of w n it)) [])) is
    at_node (Some it) is =
        ap (λ x. find (is_past last) (with_item x (λ it. node_keys (site_of w n it)) [])) is
        ∙ none-by (IsAt n) (is_past last) (node_keys (site_of w n it)) (λ k at. fails k at.station)
        (node-keys (site_of w n it) (reached.sites n it is))
