-- What is left of the processes of an active part, over what changes of its tasks.
use Rattle.std.proofs.Common.{◌≡◌, ◌<◌, ◌+◌, ℕ, zero, suc, Bool, true, false, cond, List, [], ◌∷◌, map, length, get_or, refl, sym, ◌∙◌}
use Rattle.std.proofs.Common.{subst, arith}
use Rattle.std.specs.Prelude.{slice_set}
use Rattle.std.specs.List.{AllByRecursion}
use Rattle.std.specs.Ordering.{nat_cmp}
use Rattle.std.specs.declared.cmp.Ordering.{Ordering}
use Rattle.std.specs.declared.cmp.Ordering.TheVariants.{Less, Equal, Greater}
use Rattle.std.specs.FinMap.Entries.{by_order}
use Rattle.eden_model.specs.Map.{each_value, put_at, where_key}
use Rattle.epl_syntax.specs.Edentype.{Edentype}
use Rattle.epl_syntax.specs.Meaning.{Rest as Meant, of_native}
use Rattle.epl_syntax.specs.Natives.{in_directory}
use Rattle.transput.specs.View as streams
use Rattle.transput.specs.declared.stream.Stage.{Stage as StreamStage}
use Rattle.transput.specs.declared.stream.Stage.TheVariants as streamed
use Rattle.edentypes.specs.Fitting.{RestFits, is_directory, is_directory_rest}
use Rattle.edentypes.specs.View.{rest_of}
use Rattle.edentypes.specs.declared.Kind.{Kind}
use Rattle.edentypes.specs.declared.Rest.{Rest}
use Rattle.edentypes.specs.declared.Rest.TheVariants as rests
use Rattle.journal.specs.World.{Task}
use Rattle.journal.specs.Ejects.{tasks_from}
use Rattle.active_part.specs.Fitting.{RestsFit}
use Rattle.active_part.specs.View.{task_of}
use Rattle.active_part.specs.declared.Doing.{Doing}

-- ---- what is left, by its meaning

-- whether it is left to a directory
abbrev is_of_directory : Meant → Bool
is_of_directory (of_native (in_directory s)) = true
is_of_directory _ = false

stream-is : (s : StreamStage) → false ≡ is_of_directory (of_native (streams.stage_of s))
stream-is (streamed.OfLines s) = refl
stream-is (streamed.OfFilter s) = refl
stream-is (streamed.OfSink s) = refl

meant-is : (t : Edentype) (r : Rest) → is_directory_rest r ≡ is_of_directory (rest_of t r)
meant-is t (rests.Cell s) = refl
meant-is t (rests.Directory s) = refl
meant-is t (rests.Stream s) = stream-is s
meant-is t (rests.Declared l) = refl

module _ (k : Kind) where
  abbrev MeantFits : ℕ × Task → Type 0
  MeantFits e = is_of_directory e.1.rest ≡ is_directory k

  to-meant : (t : Edentype) (es : List (ℕ × Doing)) → RestsFit k es → AllByRecursion MeantFits (each_value (task_of t) es)
  to-meant t [] h = tt
  to-meant t (e ∷ es) h = (sym (meant-is t e.1.rest) ∙ h.0, to-meant t es h.1)

  from-meant : (t : Edentype) (es : List (ℕ × Doing)) → AllByRecursion MeantFits (each_value (task_of t) es) → RestsFit k es
  from-meant t [] h = tt
  from-meant t (e ∷ es) h = (meant-is t e.1.rest ∙ h.0, from-meant t es h.1)

  put-fit : (p : ℕ) (x : Task) (es : List (ℕ × Task)) → is_of_directory x.rest ≡ is_directory k → AllByRecursion MeantFits es
      → AllByRecursion MeantFits (put_at nat_cmp p x es)
  put-fit p x [] f h = (f, tt)
  put-fit p x (e ∷ es) f h = go (nat_cmp p e.0) (put-fit p x es f h.1)
    where
      go : (o : Ordering) → AllByRecursion MeantFits (put_at nat_cmp p x es)
          → AllByRecursion MeantFits (by_order o ((p, x) ∷ e ∷ es) ((e.0, x) ∷ es) (e ∷ put_at nat_cmp p x es))
      go Less later = (f, h)
      go Equal later = (f, h.1)
      go Greater later = (h.0, later)

  where-fit : (test : ℕ → Bool) (es : List (ℕ × Task)) → AllByRecursion MeantFits es → AllByRecursion MeantFits (where_key nat_cmp test es)
  where-fit test [] h = tt
  where-fit test (e ∷ es) h = go (test e.0) (where-fit test es h.1)
    where
      go : (b : Bool) → AllByRecursion MeantFits (where_key nat_cmp test es)
          → AllByRecursion MeantFits (cond b (e ∷ where_key nat_cmp test es) (where_key nat_cmp test es))
      go true later = (h.0, later)
      go false later = later

  begun-fit : (t : Edentype) (n : ℕ) (rs : List Rest) → AllByRecursion (RestFits k) rs
      → AllByRecursion MeantFits (tasks_from n (map (rest_of t) rs))
  begun-fit t n [] h = tt
  begun-fit t n (r ∷ rs) h = (sym (meant-is t r) ∙ h.0, begun-fit t (n + 1) rs h.1)

  -- ---- what changes of the tasks

  -- they stay
  pub same-fit : (t : Edentype) (new old : List (ℕ × Doing)) → each_value (task_of t) new ≡ each_value (task_of t) old → RestsFit k old
      → RestsFit k new
  same-fit t new old same h = from-meant t new (subst (AllByRecursion MeantFits) (sym same) (to-meant t old h))

  -- one more is there
  pub added-fit : (t : Edentype) (p : ℕ) (x : Doing) (new old : List (ℕ × Doing))
      → each_value (task_of t) new ≡ put_at nat_cmp p (task_of t x) (each_value (task_of t) old) → RestFits k x.rest → RestsFit k old
      → RestsFit k new
  added-fit t p x new old added f h =
      from-meant t new (subst (AllByRecursion MeantFits) (sym added)
      (put-fit p (task_of t x) (each_value (task_of t) old) (sym (meant-is t x.rest) ∙ f) (to-meant t old h)))

  -- those of the others are left
  pub removed-fit : (t : Edentype) (test : ℕ → Bool) (new old : List (ℕ × Doing))
      → each_value (task_of t) new ≡ where_key nat_cmp test (each_value (task_of t) old) → RestsFit k old → RestsFit k new
  removed-fit t test new old removed h =
      from-meant t new (subst (AllByRecursion MeantFits) (sym removed)
      (where-fit test (each_value (task_of t) old) (to-meant t old h)))

  -- those of the declared processes
  pub fresh-fit : (t : Edentype) (rs : List Rest) (es : List (ℕ × Doing))
      → each_value (task_of t) es ≡ tasks_from 1 (map (rest_of t) rs) → AllByRecursion (RestFits k) rs → RestsFit k es
  fresh-fit t rs es begun h = from-meant t es (subst (AllByRecursion MeantFits) (sym begun) (begun-fit t 1 rs h))

  -- one that is read
  pub read-fit : (i : ℕ) (d e : ℕ × Doing) (es : List (ℕ × Doing)) → e ≡ get_or es i d → i < length es → RestsFit k es
      → RestFits k e.1.rest
  read-fit i d e es is less h = subst (λ (x : ℕ × Doing). RestFits k x.1.rest) (sym is) (at i es less h)
    where
      at : (j : ℕ) (fs : List (ℕ × Doing)) → j < length fs → RestsFit k fs → RestFits k (get_or fs j d).1.rest
      at j [] less g = absurd (omega (arith, less))
      at zero (f ∷ fs) less g = g.0
      at (suc j) (f ∷ fs) less g = at j fs (omega (arith, less)) g.1

  -- one that is written in place of another
  pub set-fit : (i : ℕ) (x : ℕ × Doing) (es : List (ℕ × Doing)) → RestFits k x.1.rest → RestsFit k es → RestsFit k (slice_set es i x)
  set-fit i x [] f h = tt
  set-fit zero x (e ∷ es) f h = (f, h.1)
  set-fit (suc i) x (e ∷ es) f h = (h.0, set-fit i x es f h.1)
