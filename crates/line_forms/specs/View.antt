-- What the code's values are.
use Rattle.std.specs.Prelude.{map}
use Rattle.eden_value.specs.View as value
use Rattle.script_words.specs.Meaning.{written_mode}
use Rattle.line_forms.specs.Forms.{Form, Kind, Last, nothing, datum, words, mode, Row, Line, idle, begins, does, finish, Which, unknown}
use Rattle.line_forms.specs.Forms.{the_first, the_end, other}
use Rattle.line_forms.specs.Tests.{Seen}
use Rattle.line_forms.specs.declared.form.Form.{Form as CodeForm}
use Rattle.line_forms.specs.declared.form.Kind.{Kind as CodeKind}
use Rattle.line_forms.specs.declared.form.Last.{Last as CodeLast}
use Rattle.line_forms.specs.declared.form.Last.TheVariants as code
use Rattle.line_forms.specs.declared.form.Row.{Row as CodeRow}
use Rattle.line_forms.specs.declared.line.Line.{Line as CodeLine}
use Rattle.line_forms.specs.declared.line.Line.TheVariants as line
use Rattle.line_forms.specs.declared.line.Which.{Which as CodeWhich}
use Rattle.line_forms.specs.declared.line.Which.TheVariants as word
use Rattle.line_forms.specs.declared.line.Seen.{Seen as CodeSeen}

-- a form of the code
abbrev pub form_of : CodeForm → Form
form_of f = record { word = f.word.now; places = f.places.now; ending = f.ending }

-- a kind of the code
abbrev pub kind_of : CodeKind → Kind
kind_of k = record { first = form_of k.first; others = map form_of k.others.now }

-- what a line ends with, in the code
abbrev pub last_of : CodeLast → Last
last_of code.Nothing = nothing
last_of (code.Datum v) = datum (value.datum v)
last_of (code.Text t) = words t
last_of (code.Mode how) = mode (written_mode how)

-- a row of the code
abbrev pub row_of : CodeRow → Row
row_of r = record { form = r.form; numbers = r.numbers.items; last = last_of r.last }

-- a line of the code
abbrev pub line_of : CodeLine → Line
line_of line.Idle = idle
line_of (line.Begins ns e) = begins ns.items (last_of e)
line_of (line.Does r) = does (row_of r)
line_of line.Finish = finish

-- what a word stands for, in the code
abbrev pub which_of : CodeWhich → Which
which_of word.Unknown = unknown
which_of word.First = the_first
which_of word.End = the_end
which_of (word.Other i f) = other i (form_of f)

-- what the lines so far leave, in the code
abbrev pub seen_of : CodeSeen → Seen
seen_of s = record { begun = s.begun; most = s.most; ended = s.ended }
