-- Blank disks open as the world of blank nodes, so that a history which follows its script from there follows it over them.
use Rattle.std.proofs.Common.{◌≡◌, ℕ, zero, suc, ◌+◌, ◌≤◌, ◌<◌, false, List, [], ◌∷◌, length, map, is_some, Ok, refl, sym, ◌∙◌, ap}
use Rattle.std.proofs.Common.{subst, arith}
use Rattle.std.specs.Prelude.{nat_lt, slice_index_or, IsTrue}
use Rattle.std.specs.List.{All}
use Rattle.std.proofs.lemmas.List.{length-replicate, get_or-replicate}
use Rattle.std.proofs.lemmas.Bool.Decides.{nat_tests}
use Rattle.std.specs.FinMap as finite
use Rattle.capability.specs.declared.Uid.{Uid}
use Rattle.capability.specs.Uids.{uid_cmp}
use Rattle.eden_model.specs.Map.{value_at}
use Rattle.eden_disk.specs.Told.{Told, contents}
use Rattle.passive_store.specs.Kept.{nothing_kept}
use Rattle.passive_store.specs.Log.{log_map}
use Rattle.passive_store.specs.LogLayout.{log_layout}
use Rattle.epl_syntax.specs.Meaning.{types_in}
use Rattle.epl_syntax.specs.Edentype.{Edentype}
use Rattle.epl_syntax.specs.Rules.OfTypes.{TypeList, native_only}
use Rattle.journal.specs.declared.command.Command.{Command}
use Rattle.journal.specs.declared.event.Entry.{Entry}
use Rattle.journal.specs.World.{Node}
use Rattle.journal.specs.Opening.{IsFitImage, node_of, found_in, entries_of, opening_of}
use Rattle.journal.specs.Run.{Follows}
use Rattle.journal.specs.Standing.{DiskRun}
use Rattle.journal.specs.LegalRun.{IsHandedIn, images, numbered_from, opening_world}
use Rattle.journal.specs.RefusedRuns.{BlankLogsMayBeHandedIn, script_with, script_of, zeros, blank_told}
use Rattle.journal.proofs.Scenes.{blank_node, blank_node_of, blank_nodes, blank_world_of, blank_world}
use Rattle.journal.proofs.Following.{follows, follows-sound}

-- 1. What nothing was written on keeps nothing.

none-of-none : {X : Type 0} (xs : List X) → length xs ≡ 0 → xs ≡ []
none-of-none [] e = refl
none-of-none (x ∷ xs) e = absurd (omega (arith, e))

no-entries : finite.entries nothing_kept.bodies ≡ []
no-entries =
    none-of-none (finite.entries nothing_kept.bodies) (sym (finite.len-entries nothing_kept.bodies) ∙ finite.len-empty uid_cmp (List ℕ))

blank-map : (n size : ℕ) → 17 ≤ size → log_map n (zeros size) ≡ Ok nothing_kept
blank-map n size fits =
    let long : nat_lt size 17 ≡ false = grind (arith, nat_tests, fits) in
    rw (length-replicate {A = ℕ} size 0, long, get_or-replicate {A = ℕ} size 0 0 0 (omega (arith, fits))) refl

pub blank-found : (n size : ℕ) → 17 ≤ size → found_in log_layout n (zeros size) ≡ Ok []
blank-found n size fits = ap entries_of (blank-map n size fits) ∙ ap Ok no-entries

opens-node : (n size : ℕ) → 17 ≤ size → node_of log_layout (n, zeros size) ≡ blank_node_of size
opens-node n size fits = rw (blank-map n size fits, length-replicate {A = ℕ} size 0, no-entries) refl

-- 2. A blank disk is handed in as it has to be.

small-bytes : (size : ℕ) → All (λ byte. byte < 256) (zeros size)
small-bytes size k d there =
    let zero_there : slice_index_or (zeros size) k d ≡ 0 = get_or-replicate {A = ℕ} size k 0 d
    (omega (arith, there, length-replicate {A = ℕ} size 0)) in
    omega (arith, zero_there)

fit-blank : (n size : ℕ) → 17 ≤ size → IsFitImage log_layout n (zeros size)
fit-blank n size fits = record {
  epochs = λ kept found u there. absurd (nothing-there kept u (cc (sym (blank-found n size fits) ∙ found)) there);
  room_is_told = λ kept found opens. omega arith;
}
  where
    nothing-there : (kept : List (Uid × List ℕ)) (u : Uid) → [] ≡ kept → IsTrue (is_some (value_at uid_cmp u kept)) → ⊥
    nothing-there kept u none there = absurd (cc (ap (λ es. is_some (value_at uid_cmp u es)) none ∙ there))

pub blank-disks-may-be-handed-in : BlankLogsMayBeHandedIn
blank-disks-may-be-handed-in n size d fits before = subst (λ (told : Told). IsHandedIn log_layout n (record d { before = told }))
    (sym before)
    (record { nothing_unsynced = refl; same = refl; bytes = small-bytes size; fit = fit-blank n size fits })

-- 3. The opening world of a script over blank disks

-- these disks are so many, of 1,048,576 bytes each, and nothing was written on them before they were handed in
abbrev pub AreBlank : ℕ → List DiskRun → Type 0
AreBlank zero [] = Unit {0}
AreBlank (suc n) (d ∷ disks) = (d.before ≡ blank_told 1048576) × AreBlank n disks
AreBlank _ _ = ⊥

opens-from : (n k : ℕ) (disks : List DiskRun) → AreBlank n disks
    → map (λ d. (d.0, node_of log_layout d)) (images (numbered_from k disks)) ≡ blank_nodes k n
opens-from zero k [] are = refl
opens-from zero k (d ∷ disks) are = absurd are
opens-from (suc n) k [] are = absurd are
opens-from (suc n) k (d ∷ disks) are = λ i. (k, node i) ∷ opens-from n (k + 1) disks are.1 i
  where
    node : node_of log_layout (k, (contents d.before).now) ≡ blank_node
    node = ap (λ t. node_of log_layout (k, (contents t).now)) are.0 ∙ opens-node k 1048576 (omega arith)

-- of a script with these types
pub opens-blank-of : (ts : TypeList) (types : List Edentype) (n : ℕ) (cs : List Command) (disks : List DiskRun)
    → types_in ts ≡ types → AreBlank n disks → opening_world log_layout (script_with ts n cs) disks ≡ blank_world_of types n
opens-blank-of ts types n cs disks same are =
    ap (opening_of (types_in ts) log_layout) (opens-from n 1 disks are) ∙ ap (λ all. blank_world_of all n) same

pub opens-blank : (n : ℕ) (cs : List Command) (disks : List DiskRun) → AreBlank n disks
    → opening_world log_layout (script_of n cs) disks ≡ blank_world n
opens-blank n cs disks are = opens-blank-of native_only (types_in native_only) n cs disks refl are

-- 4. Histories over blank disks

-- The history follows the script from the opening world of whatever blank disks, for each script with these types.
abbrev pub FollowsOverBlankOf : List Edentype → ℕ → List Command → List Entry → Type 0
FollowsOverBlankOf types n cs history = (ts : TypeList) → types_in ts ≡ types → (disks : List DiskRun) → AreBlank n disks
    → Follows (opening_world log_layout (script_with ts n cs) disks) n cs history

pub follows-over-blank-of : (types : List Edentype) (n : ℕ) (cs : List Command) (history : List Entry)
    → IsTrue (follows (blank_world_of types n) n cs history) → FollowsOverBlankOf types n cs history
follows-over-blank-of types n cs history is ts same disks are =
    subst (λ w. Follows w n cs history) (sym (opens-blank-of ts types n cs disks same are))
    (follows-sound (blank_world_of types n) n cs history is)

-- and for a script that declares no type
abbrev pub FollowsOverBlank : ℕ → List Command → List Entry → Type 0
FollowsOverBlank n cs history =
    (disks : List DiskRun) → AreBlank n disks → Follows (opening_world log_layout (script_of n cs) disks) n cs history

pub follows-over-blank : (n : ℕ) (cs : List Command) (history : List Entry) → IsTrue (follows (blank_world n) n cs history)
    → FollowsOverBlank n cs history
follows-over-blank n cs history is disks are = follows-over-blank-of (types_in native_only) n cs history is native_only refl disks are

-- 5. Histories over disks that a run left

-- the nodes as which these disks open
abbrev pub nodes_over : List DiskRun → List (ℕ × Node)
nodes_over disks = map (λ d. (d.0, node_of log_layout d)) (images (numbered_from 1 disks))

-- The history follows the script from the opening world of whatever disks that open as these nodes.
abbrev pub FollowsOver : List Edentype → List (ℕ × Node) → ℕ → List Command → List Entry → Type 0
FollowsOver types nodes n cs history = (ts : TypeList) → types_in ts ≡ types → (disks : List DiskRun) → nodes_over disks ≡ nodes
    → Follows (opening_world log_layout (script_with ts n cs) disks) n cs history

pub follows-over : (types : List Edentype) (nodes : List (ℕ × Node)) (n : ℕ) (cs : List Command) (history : List Entry)
    → IsTrue (follows (opening_of types log_layout nodes) n cs history) → FollowsOver types nodes n cs history
follows-over types nodes n cs history is ts same disks are = subst (λ w. Follows w n cs history)
    (sym (ap (opening_of (types_in ts) log_layout) are ∙ ap (λ all. opening_of all log_layout nodes) same))
    (follows-sound (opening_of types log_layout nodes) n cs history is)
