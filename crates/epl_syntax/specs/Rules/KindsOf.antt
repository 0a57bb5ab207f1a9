-- The kinds of expressions.
use Rattle.std.specs.Prelude.{ℕ, Bool, true, false, List, [], ◌∷◌, Option, Some, None}
use Rattle.eden_value.specs.Shape.{Shape, ints, truths, texts, caps, lists}
use Rattle.epl_syntax.specs.declared.tree.Prefix.{Prefix}
use Rattle.epl_syntax.specs.declared.tree.Prefix.TheVariants.{Not, Negate}
use Rattle.epl_syntax.specs.declared.tree.Operator.{Operator}
use Rattle.epl_syntax.specs.declared.tree.Operator.TheVariants.{Or, And, Equal, Different, Less, LessEqual, Greater, GreaterEqual, Add}
use Rattle.epl_syntax.specs.declared.tree.Operator.TheVariants.{Subtract, Join, Multiply, Divide, Modulo}
use Rattle.epl_syntax.specs.declared.tree.Builtin.{Builtin}
use Rattle.epl_syntax.specs.declared.tree.Builtin.TheVariants.{Size, Str, Put, Cut, Part, Restrict}
use Rattle.epl_syntax.specs.Tree.{Constant, integer, text, truth, absent, empty_list, Expression, Const_, Name_, Me, Unary, Binary}
use Rattle.epl_syntax.specs.Tree.{Index, ListOf, Apply, Expressions, no_expressions, expression_and}
use Rattle.epl_syntax.specs.Rules.Scopes.{Scope, Seen, variable_named}

-- whether both are one kind
abbrev pub same_shape : Shape → Shape → Bool
same_shape ints ints = true
same_shape truths truths = true
same_shape texts texts = true
same_shape caps caps = true
same_shape (lists s) (lists t) = same_shape s t
same_shape _ _ = false

-- whether a kind is one of lists
abbrev pub is_list : Shape → Bool
is_list (lists s) = true
is_list _ = false

-- a text or a list
abbrev pub has_size : Shape → Bool
has_size texts = true
has_size (lists s) = true
has_size _ = false

-- ---- kinds that are known or not; an expression of unknown kind breaks no further rule

-- the kind of a variable that is seen
abbrev pub seen_kind : Option Seen → Option Shape
seen_kind None = None
seen_kind (Some v) = Some v.kind

-- the kind of the variable of this name
abbrev pub kind_named : Scope → List ℕ → Option Shape
kind_named scope bytes = seen_kind (variable_named scope bytes)

-- the kind of the items of a list
abbrev pub item_kind : Option Shape → Option Shape
item_kind (Some (lists s)) = Some s
item_kind _ = None

-- the kind, where it is one of lists
abbrev pub list_kind : Option Shape → Option Shape
list_kind (Some (lists s)) = Some (lists s)
list_kind _ = None

-- the kind, where it is text or one of lists
abbrev pub sized_kind : Option Shape → Option Shape
sized_kind (Some texts) = Some texts
sized_kind (Some (lists s)) = Some (lists s)
sized_kind _ = None

-- the kind of a list of such items
abbrev pub kind_of_list : Option Shape → Option Shape
kind_of_list None = None
kind_of_list (Some s) = Some (lists s)

-- ---- expressions

-- the kind of a constant
abbrev pub kind_of_constant : Constant → Shape
kind_of_constant (integer n) = ints
kind_of_constant (text t) = texts
kind_of_constant (truth b) = truths
kind_of_constant absent = caps
kind_of_constant (empty_list k) = lists k.shape

-- an operand's kind, which is also that of what becomes of it
abbrev pub kind_of_prefix : Prefix → Shape
kind_of_prefix Not = truths
kind_of_prefix Negate = ints

-- what an operator gives, where its left operand is of this kind
abbrev pub kind_of_operation : Operator → Option Shape → Option Shape
kind_of_operation Or left = Some truths
kind_of_operation And left = Some truths
kind_of_operation Equal left = Some truths
kind_of_operation Different left = Some truths
kind_of_operation Less left = Some truths
kind_of_operation LessEqual left = Some truths
kind_of_operation Greater left = Some truths
kind_of_operation GreaterEqual left = Some truths
kind_of_operation Add left = Some ints
kind_of_operation Subtract left = Some ints
kind_of_operation Join left = sized_kind left
kind_of_operation Multiply left = Some ints
kind_of_operation Divide left = Some ints
kind_of_operation Modulo left = Some ints

-- what a built-in function gives, where its first argument is of this kind
abbrev pub kind_of_application : Builtin → Option Shape → Option Shape
kind_of_application Size first = Some ints
kind_of_application Str first = Some texts
kind_of_application Put first = list_kind first
kind_of_application Cut first = list_kind first
kind_of_application Part first = Some texts
kind_of_application Restrict first = Some caps

abbrev mutual
  -- the kind of an expression, or None where it is not known
  pub kind_of : Scope → Expression → Option Shape
  kind_of scope (Const_ value place) = Some (kind_of_constant value)
  kind_of scope (Name_ name) = kind_named scope name.text
  kind_of scope (Me place) = Some caps
  kind_of scope (Unary prefix of place) = Some (kind_of_prefix prefix)
  kind_of scope (Binary operator left right place) = kind_of_operation operator (kind_of scope left)
  kind_of scope (Index of at place) = item_kind (kind_of scope of)
  kind_of scope (ListOf items place) = kind_of_list (kind_of_first scope items)
  kind_of scope (Apply builtin args place) = kind_of_application builtin (kind_of_first scope args)

  -- the kind of the first of several
  pub kind_of_first : Scope → Expressions → Option Shape
  kind_of_first scope no_expressions = None
  kind_of_first scope (expression_and e es) = kind_of scope e

-- ---- what the arguments of a built-in function have to be, in order; the first is of the kind `first`
--   size of a text or list; str of an int; put in a list, at an int, an item; cut from a list at an int;
--   part of a text from an int on, of so many bytes; restrict a capability by a mask
-- whether a kind is that of the items of a list; where the other is unknown or no kind of lists, each is
abbrev pub is_item_of : Option Shape → Shape → Bool
is_item_of (Some (lists s)) t = same_shape s t
is_item_of _ t = true

-- the tests that the kinds of a function's arguments have to pass, one for each
abbrev pub argument_tests : Builtin → Option Shape → List (Shape → Bool)
argument_tests Size first = has_size ∷ []
argument_tests Str first = same_shape ints ∷ []
argument_tests Put first = is_list ∷ same_shape ints ∷ is_item_of first ∷ []
argument_tests Cut first = is_list ∷ same_shape ints ∷ []
argument_tests Part first = same_shape texts ∷ same_shape ints ∷ same_shape ints ∷ []
argument_tests Restrict first = same_shape caps ∷ same_shape ints ∷ []
