-- The calls by what may close them: of each link and of each station a list of numbers.
use Rattle.std.specs.Prelude.{◌≡◌, ℕ, ◌≤◌, ◌<◌, ◌+◌, ◌*◌, ◌&&◌, ◌||◌, ◌==◌, Bool, not, cond, List, [], length, slice_get, nat_le}
use Rattle.std.specs.Prelude.{Vec, IsSomeAnd, vec_len, vec_capacity}
use Rattle.std.specs.declared.alloc.Global.{Global}
use Rattle.std.specs.List.{All, filter}
use Rattle.eden_model.specs.Map.{with_item}
use Rattle.invocation.specs.declared.call.Call.{Call}
use Rattle.invocation.specs.declared.closing.Cause.{Cause}
use Rattle.invocation.specs.declared.closing.Cause.TheVariants.{Cut, Crash}
use Rattle.invocation.specs.declared.lists.Index.{Index}
use Rattle.invocation.specs.Mail.{IsGiven, is_open}
use Rattle.invocation.specs.Causes.{hits, ends}
use Rattle.invocation.specs.Numbers.{numbers_where, passes_at}

-- the call is open, or has its arguments still
abbrev pub is_live : Call → Bool
is_live c = is_open c || not (length c.args == 0)

-- the cause changes the call
abbrev pub concerns : Cause → Call → Bool
concerns cause c = (is_open c && hits cause c) || (is_live c && ends cause c)

-- lists of numbers, by their places
abbrev pub Lists : Type 0
Lists = List (Vec ℕ Global)

-- the numbers at a place
abbrev pub numbers_at : ℕ → Lists → List ℕ
numbers_at p lists = with_item (slice_get lists p) (λ v. v.items) []

-- the place of the link between a and b, whichever comes first
abbrev pub link : ℕ → ℕ → ℕ
link a b = cond (nat_le a b) (9 * a + b) (9 * b + a)

-- the numbers of the calls that pass, ascending, and perhaps others among them, of calls that passed once
pub record IsListOf (test : Call → Bool) (calls : List Call) (numbers : List ℕ) : Type 0 where
  pub passed : filter (passes_at test calls) numbers ≡ numbers_where test 1 calls
  pub given : All (IsGiven calls) numbers

-- a list for each link, and one for each station
pub record AreLists (index : Index) : Type 0 where
  pub links : length index.links.items ≡ 81
  pub nodes : length index.nodes.items ≡ 9

-- in the lists stand the calls that a cut or a crash changes
pub record IsIndex (calls : List Call) (index : Index) : Type 0 where
  pub lists : AreLists index
  pub cuts : (a b : ℕ) → a ≤ 8 → b ≤ 8 → IsListOf (concerns (Cut a b)) calls (numbers_at (link a b) index.links.items)
  pub crashes : (n : ℕ) → n ≤ 8 → IsListOf (concerns (Crash n)) calls (numbers_at n index.nodes.items)

-- the list at a place takes one more number without more memory
abbrev pub HasRoom : ℕ → Lists → Type 0
HasRoom p lists = IsSomeAnd (slice_get lists p) (λ v. vec_len v < vec_capacity v)

-- so do those of a link and of its ends
pub record HasRoomFor (from to : ℕ) (index : Index) : Type 0 where
  pub lists : AreLists index
  pub over : HasRoom (link from to) index.links.items
  pub asker : HasRoom from index.nodes.items
  pub target : HasRoom to index.nodes.items
