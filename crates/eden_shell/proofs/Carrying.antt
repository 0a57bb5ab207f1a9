-- A world that carried a script: what is said of the run, and of its disks.
use Rattle.std.proofs.Common.{◌≡◌, ◌≤◌, ◌+◌, ◌-◌, ℕ, zero, suc, Bool, true, false, List, [], ◌∷◌, ◌++◌, length, drop, map, refl, arith, inl}
use Rattle.std.proofs.Common.{inr, sym, ◌∙◌, ap, subst, IsTrue, take, Some}
use Rattle.std.specs.Prelude.{Result, Ok, Err, is_ok, OnOk, OnErr}
use Rattle.std.specs.List.{All}
use Rattle.std.proofs.lemmas.List.{drop_all, drop_at, take_all, take_at}
use Rattle.std.proofs.lemmas.List.Elements.{All-nil, All-cons, All-head, All-tail}
use Rattle.std.proofs.Common.{cond}
use Rattle.std.specs.Ordering.{nat_cmp, eq_by_cmp}
use Rattle.eden_disk.specs.Calls.{Counts}
use Rattle.eden_model.specs.Map.{value_at}
use Rattle.epl_syntax.specs.Rules.OfTypes.{TypeList}
use Rattle.passive_store.specs.Kept.{Layout}
use Rattle.passive_store.specs.Layout.{IsLayout}
use Rattle.passive_store.specs.Seen.{Seen, DiskSeen}
use Rattle.checkpoint.specs.Touches.{ReadsByCalls}
use Rattle.journal.specs.declared.command.Script.{Script}
use Rattle.journal.specs.Fit.{IsFit}
use Rattle.journal.specs.declared.event.Entry.{Entry}
use Rattle.journal.specs.Faults.{ShowsEach, ShowsNoMore}
use Rattle.journal.specs.LegalRun.{AreHandedIn, EachDisk, IsLegalRun, IsLegalSoFar, numbered_from}
use Rattle.journal.specs.Standing.{DiskRun}
use Rattle.journal.specs.Run.{most_turns}
use Rattle.runs.specs.Room.{entries_in, most_calls}
use Rattle.runs.specs.Runs.{CarriesAll, CarriesPart, HasNumbers, KeepsShown, KeepsShownSoFar}
use Rattle.runs.specs.declared.run.Run.{Run}
use Rattle.eden_world.specs.InHand.{Did, Ends, Stands}
use Rattle.eden_world.specs.Legal.{AreSized, IsAtStart, IsInOrder, disk_run, disk_runs}
use Rattle.eden_world.specs.Seated.{AreGiven, Begins, EachShows, FitsTogether, IsSeated, KeepsDisks, heeds}
use Rattle.eden_world.specs.declared.World.{World as Program}
use Rattle.eden_world.proofs.LegalCarried.{carried-legal, carried-part, carried-seated, carried-shows, carried-shows_so_far, none-shown}
use Rattle.eden_world.proofs.LegalCarried.{whole-seated}
use Rattle.eden_world.proofs.AsMany.{all-same, as-many-back, part-same}
use Rattle.eden_world.proofs.DiskPairs.{runs-length}
use Rattle.shell_answers.specs.Answers.{Disks, IsUntouched, WantedNoMemory, IsLegalOver, IsLegalPartOver, IsCarriedOut, disks_of_nodes}
use Rattle.shell_answers.specs.Answers.{other_disks}

-- 1. Disks

-- those that no one touched
pub untouched : {D : Type 0} (obeys : Bool) (look : D → DiskSeen) (disks : List D) → All IsUntouched (disk_runs obeys look disks disks)
untouched obeys look [] = All-nil IsUntouched
untouched obeys look (d ∷ disks) = All-cons IsUntouched _ _ (record { told = refl; counts = refl; due = refl }) (untouched obeys look disks)

first-wants : {D : Type 0} (f : D → ℕ) (a b : D) (before after : List D) → map f (b ∷ after) ≡ map f (a ∷ before)
    → (f b ≡ f a) × (map f after ≡ map f before)
first-wants f a b before after is = (cc, cc)

-- those of which none wanted memory
pub none-wanted : {D : Type 0} (obeys : Bool) (look : D → DiskSeen) (before after : List D)
    → map (λ d. (look d).counts.wants) after ≡ map (λ d. (look d).counts.wants) before
    → All WantedNoMemory (disk_runs obeys look before after)
none-wanted obeys look [] after same = All-nil WantedNoMemory
none-wanted obeys look (a ∷ before) [] same = All-nil WantedNoMemory
none-wanted obeys look (a ∷ before) (b ∷ after) same =
    let both = first-wants (λ d. (look d).counts.wants) a b before after same in
    All-cons WantedNoMemory _ _ both.0 (none-wanted obeys look before after both.1)

-- as the answers speak of them
abbrev pub disks_over : {D : Type 0} → Bool → Bool → Layout → (D → DiskSeen) → List D → List D → Disks
disks_over tells obeys layout look before after = record { layout = layout; tells = tells; runs = disk_runs obeys look before after }

-- 2. The run

-- what is taken for granted of a run
pub record IsSet {D : Type 0} (tells : Bool) (layout : Layout) (look : D → DiskSeen) (script : Script)
    (before after : List D) : Type 0 where
  pub its_layout : IsLayout layout
  pub reads : ReadsByCalls layout
  pub fit : IsFit script
  pub few : script.nodes + entries_in script.commands ≤ 1048576
  pub as_many : length before ≡ script.nodes
  pub given : length after ≡ length before
  pub sized : IsTrue tells → AreSized look before

module _ {T D : Type 0} (tells obeys : Bool) (layout : Layout) (seen : T → Seen) (look : D → DiskSeen) (script : Script)
    (before after : List D) (old new : Run (Program T D)) (ready : IsSet tells layout look script before after)
    (start : IsAtStart script before old) (given : AreGiven seen look new.machine after) where
  in-order : IsTrue tells → AreHandedIn layout (disk_runs obeys look before after)
      → IsInOrder tells obeys layout look script before after
  in-order telling handed = record {
    telling = telling;
    its_layout = ready.its_layout;
    reads = ready.reads;
    fit = ready.fit;
    few = (let few = ready.few in omega (arith, few));
    handed_in = handed;
    enough = let many = ready.as_many in omega (arith, many);
    places = let most = ready.fit.nodes.1 in omega (arith, most, ready.as_many);
    given = ready.given;
    sized = ready.sized telling;
  }

  few : length before ≤ 8
  few = let most = ready.fit.nodes.1 in omega (arith, most, ready.as_many)

  -- all these disks are those of its nodes
  all : disks_of_nodes script (disk_runs obeys look before after) ≡ disk_runs obeys look before after
  all = take_all script.nodes (disk_runs obeys look before after)
      (let many = runs-length obeys look before after ready.given in omega (arith, many, ready.as_many))

  no_more : other_disks script (disk_runs obeys look before after) ≡ []
  no_more = drop_all script.nodes (disk_runs obeys look before after)
      (let many = runs-length obeys look before after ready.given in omega (arith, many, ready.as_many))

  handed-in : AreHandedIn layout (disks_of_nodes script (disk_runs obeys look before after))
      → AreHandedIn layout (disk_runs obeys look before after)
  handed-in handed = subst (AreHandedIn layout) all handed

  no-others : All IsUntouched (other_disks script (disk_runs obeys look before after))
  no-others = subst (All IsUntouched) (sym no_more) (All-nil IsUntouched)

  legal-over : CarriesAll (Stands tells layout seen look) (Did layout seen look) old new script.nodes script.commands
      → KeepsShown (EachShows (heeds tells obeys) seen look) old new
      → IsLegalOver (disks_over tells obeys layout look before after) script new.history.items
  legal-over carries shows = record {
    legal = λ telling handed. subst (λ runs. IsLegalRun layout script runs new.history.items) (sym all)
        (carried-legal tells obeys layout seen look script before after old new (in-order telling (handed-in handed)) start carries shows
        given);
    faults = subst (λ runs. EachDisk runs (ShowsEach new.history.items)) (sym all)
        (carried-shows (heeds tells obeys) obeys seen look script before after old new few start shows given);
    others = no-others;
  }

  -- it came to its end; where it is said to be whole, the disks wanted no memory
  pub carried-whole : (whole : Bool)
      → CarriesAll (Stands tells layout seen look) (Did layout seen look) old new script.nodes script.commands
      → KeepsShown (EachShows (heeds tells obeys) seen look) old new
      → (whole ≡ true → map (λ d. (look d).counts.wants) after ≡ map (λ d. (look d).counts.wants) before)
      → IsCarriedOut (disks_over tells obeys layout look before after) script new.history.items whole
  carried-whole whole carries shows same = record {
    legal = inl (legal-over carries shows);
    ended = λ is. legal-over carries shows;
    no_wants = λ is. none-wanted obeys look before after (same is);
  }

  -- want of memory ended it
  pub carried-short : (whole : Bool) → (whole ≡ true → ⊥)
      → CarriesPart (Stands tells layout seen look) (Did layout seen look) (Ends layout seen look) old new script.nodes script.commands
      → KeepsShownSoFar (EachShows (heeds tells obeys) seen look) (FitsTogether seen) (KeepsDisks (heeds tells obeys) seen look) old new
      → IsCarriedOut (disks_over tells obeys layout look before after) script new.history.items whole
  carried-short whole short carries shows = record {
    legal = inr (record {
      legal = λ telling handed. subst (λ runs. IsLegalSoFar layout script runs new.history.items) (sym all)
          (carried-part tells obeys layout seen look script before after old new (in-order telling (handed-in handed)) start carries shows
          given);
      faults = subst (λ runs. EachDisk runs (ShowsNoMore new.history.items)) (sym all)
          (carried-shows_so_far (heeds tells obeys) obeys seen look script before after old new few start shows given);
      others = no-others;
    });
    ended = λ is. absurd (short is);
    no_wants = λ is. absurd (short is);
  }

  -- one or the other, by what carrying it out answered
  pub carried-by : {X E : Type 0} (r : Result X E) (whole : Bool)
      → (whole ≡ true → (is_ok r ≡ true) × (map (λ d. (look d).counts.wants) after ≡ map (λ d. (look d).counts.wants) before))
      → OnOk r (CarriesAll (Stands tells layout seen look) (Did layout seen look) old new script.nodes script.commands)
      → OnErr r (CarriesPart (Stands tells layout seen look) (Did layout seen look) (Ends layout seen look) old new script.nodes
      script.commands)
      → OnOk r (KeepsShown (EachShows (heeds tells obeys) seen look) old new)
      → OnErr r (KeepsShownSoFar (EachShows (heeds tells obeys) seen look) (FitsTogether seen) (KeepsDisks (heeds tells obeys) seen look) old new)
      → IsCarriedOut (disks_over tells obeys layout look before after) script new.history.items whole
  carried-by (Ok x) whole same all part shown shown_part = carried-whole whole all shown (λ is. (same is).1)
  carried-by (Err e) whole same all part shown shown_part =
      carried-short whole (λ is. let bad : false ≡ true = (same is).0 in cc bad) part shown_part

-- each disk is at its place then
pub seated-by : {T D X E : Type 0} (shown : Bool) (seen : T → Seen) (look : D → DiskSeen) (old new : Run (Program T D)) (r : Result X E)
    → old.history.items ≡ [] → OnOk r (FitsTogether seen new.machine)
    → OnErr r (KeepsShownSoFar (EachShows shown seen look) (FitsTogether seen) (KeepsDisks shown seen look) old new) → IsSeated new.machine
seated-by shown seen look old new (Ok x) none whole part = whole-seated seen new.machine whole
seated-by shown seen look old new (Err e) none whole part = carried-seated shown seen look old new none part

-- As many disks are given back as it began over.
pub counted-by : {T D X E : Type 0} (shown : Bool) (seen : T → Seen) (look : D → DiskSeen) (types : TypeList) (before after : List D)
    (old new : Run (Program T D)) (r : Result X E) → length before ≤ 8 → length after ≤ 8 → Begins types before old.machine
    → AreGiven seen look new.machine after → old.history.items ≡ [] → OnOk r (KeepsShown (EachShows shown seen look) old new)
    → OnErr r (KeepsShownSoFar (EachShows shown seen look) (FitsTogether seen) (KeepsDisks shown seen look) old new)
    → length after ≡ length before
counted-by shown seen look types before after old new (Ok x) few fewer begins given none whole part =
    as-many-back seen look types before after old.machine new.machine few fewer begins given
    (λ n number. all-same shown seen look n number new.history.items old.machine new.machine
    (whole old.machine (none-shown shown seen look old none)))
counted-by shown seen look types before after old new (Err e) few fewer begins given none whole part =
    as-many-back seen look types before after old.machine new.machine few fewer begins given
    (λ n number. part-same shown seen look n number new.history.items old.machine new.machine
    (part old.machine (none-shown shown seen look old none)))

-- So it is of the world that was closed, by what is known where it was.
pub counted-over : {T D X E : Type 0} (shown : Bool) (seen : T → Seen) (look : D → DiskSeen) (script : Script) (before after : List D)
    (first last : Program T D) (old new : Run (Program T D)) (r : Result X E) → length before ≡ script.nodes → IsFit script
    → length after ≤ 8 → Begins script.types before first → old.machine ≡ first → AreGiven seen look last after → last ≡ new.machine
    → old.history.items ≡ [] → OnOk r (KeepsShown (EachShows shown seen look) old new)
    → OnErr r (KeepsShownSoFar (EachShows shown seen look) (FitsTogether seen) (KeepsDisks shown seen look) old new)
    → length after ≡ length before
counted-over shown seen look script before after first last old new r many fit fewer begins machine given out none whole part =
    counted-by shown seen look script.types before after old new r (let most = fit.nodes.1 in omega (arith, most, many)) fewer
    (subst (λ p. Begins script.types before p) (sym machine) begins) (subst (λ p. AreGiven seen look p after) out given) none whole part

-- 3. Beside other disks

runs-append : {D : Type 0} (obeys : Bool) (look : D → DiskSeen) (before after others : List D) → length after ≡ length before
    → disk_runs obeys look (before ++ others) (after ++ others) ≡ disk_runs obeys look before after ++ disk_runs obeys look others others
runs-append obeys look [] [] others same = refl
runs-append obeys look [] (a ∷ after) others same = absurd (omega (arith, same))
runs-append obeys look (b ∷ before) [] others same = absurd (omega (arith, same))
runs-append obeys look (b ∷ before) (a ∷ after) others same =
    let more : length after ≡ length before = omega (arith, same) in
    ap (λ (ds : List DiskRun). disk_run obeys (look b) (look a) ∷ ds) (runs-append obeys look before after others more)

no-wants-besides : (runs others : List DiskRun) → All WantedNoMemory runs → All IsUntouched others → All WantedNoMemory (runs ++ others)
no-wants-besides [] [] none still = All-nil WantedNoMemory
no-wants-besides [] (d ∷ others) none still = All-cons WantedNoMemory _ _
    (ap (λ (k : Counts). k.wants) (All-head IsUntouched d others still).counts)
    (no-wants-besides [] others none (All-tail IsUntouched d others still))
no-wants-besides (d ∷ runs) others none still = All-cons WantedNoMemory _ _ (All-head WantedNoMemory d runs none)
    (no-wants-besides runs others (All-tail WantedNoMemory d runs none) still)

module _ {D : Type 0} (tells obeys : Bool) (layout : Layout) (look : D → DiskSeen) (script : Script) (before after others : List D)
    (history : List Entry) (many : length before ≡ script.nodes) (same : length after ≡ length before) where
  abbrev some : List DiskRun
  some = disk_runs obeys look before after

  abbrev still : List DiskRun
  still = disk_runs obeys look others others

  abbrev these : Disks
  these = disks_over tells obeys layout look before after

  abbrev all-of : Disks
  all-of = disks_over tells obeys layout look (before ++ others) (after ++ others)

  as-many : length some ≡ script.nodes
  as-many = runs-length obeys look before after same ∙ many

  both : disk_runs obeys look (before ++ others) (after ++ others) ≡ some ++ still
  both = runs-append obeys look before after others same

  -- those of the nodes are the same
  of-nodes : disks_of_nodes script (disk_runs obeys look (before ++ others) (after ++ others)) ≡ disks_of_nodes script some
  of-nodes = ap (take script.nodes) both ∙ take_at some still script.nodes as-many
      ∙ sym (take_all script.nodes some (omega (arith, as-many)))

  of-others : All IsUntouched (other_disks script (disk_runs obeys look (before ++ others) (after ++ others)))
  of-others = subst (All IsUntouched) (sym (ap (drop script.nodes) both ∙ drop_at some still script.nodes as-many))
      (untouched obeys look others)

  over-besides : IsLegalOver these script history → IsLegalOver all-of script history
  over-besides over = record {
    legal = λ telling handed. subst (λ runs. IsLegalRun layout script runs history) (sym of-nodes)
        (over.legal telling (subst (AreHandedIn layout) of-nodes handed));
    faults = subst (λ runs. EachDisk runs (ShowsEach history)) (sym of-nodes) over.faults;
    others = of-others;
  }

  part-besides : IsLegalPartOver these script history → IsLegalPartOver all-of script history
  part-besides over = record {
    legal = λ telling handed. subst (λ runs. IsLegalSoFar layout script runs history) (sym of-nodes)
        (over.legal telling (subst (AreHandedIn layout) of-nodes handed));
    faults = subst (λ runs. EachDisk runs (ShowsNoMore history)) (sym of-nodes) over.faults;
    others = of-others;
  }

  pub besides-others : (whole : Bool) → IsCarriedOut these script history whole → IsCarriedOut all-of script history whole
  besides-others whole out = record {
    legal = elim out.legal [ inl over ↦ inl (over-besides over) | inr part ↦ inr (part-besides part) ];
    ended = λ is. over-besides (out.ended is);
    no_wants = λ is. subst (All WantedNoMemory) (sym both) (no-wants-besides some still (out.no_wants is) (untouched obeys look others));
  }

-- 4. Where all disks are handed in as they have to be, those of the nodes are

found-taken : (k c n : ℕ) (runs : List DiskRun) (d : DiskRun) → value_at nat_cmp n (numbered_from k (take c runs)) ≡ Some d
    → value_at nat_cmp n (numbered_from k runs) ≡ Some d
found-taken k zero n runs d is = absurd (cc is)
found-taken k (suc c) n [] d is = absurd (cc is)
found-taken k (suc c) n (x ∷ runs) d is = go (eq_by_cmp nat_cmp n k) is (found-taken (k + 1) c n runs d)
  where
    go : (b : Bool) → cond b (Some x) (value_at nat_cmp n (numbered_from (k + 1) (take c runs))) ≡ Some d
        → (value_at nat_cmp n (numbered_from (k + 1) (take c runs)) ≡ Some d → value_at nat_cmp n (numbered_from (k + 1) runs) ≡ Some d)
        → cond b (Some x) (value_at nat_cmp n (numbered_from (k + 1) runs)) ≡ Some d
    go true found later = found
    go false found later = later found

pub handed-nodes : (layout : Layout) (script : Script) (runs : List DiskRun) → AreHandedIn layout runs
    → AreHandedIn layout (disks_of_nodes script runs)
handed-nodes layout script runs handed n d there = handed n d (found-taken 1 script.nodes n runs d there)

-- 5. Numbers of calls

few-numbers : (asked turns others : ℕ) → asked ≡ 0 → turns ≡ 0 → others ≤ 1048576 → asked + ((most_turns - turns) + others) ≤ most_calls
few-numbers asked turns others none first few = omega (arith, none, first, few)

-- where none was asked, there is one for each turn and each other entry of a script
pub numbers-first : {M : Type 0} (asked : M → ℕ) (run : Run M) (others : ℕ) → asked run.machine ≡ 0 → run.turns ≡ 0 → others ≤ 1048576
    → HasNumbers asked run others
numbers-first asked run others none first few = few-numbers (asked run.machine) run.turns others none first few
