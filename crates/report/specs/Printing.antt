-- The line that the tables of an agreement give a return. Assumes nothing.
use Rattle.std.specs.Prelude.{List, ℕ}
use Rattle.rules.specs.Contract.{returns_of}
use Rattle.contract.specs.Reading.{terms_in}
use Rattle.report.specs.declared.Tables.{Tables}
use Rattle.report.specs.Tables.{table_line, lines_in}

abbrev pub line_in : Tables → ℕ → List ℕ
line_in t k = table_line (terms_in t.agreement.contract) (returns_of t.agreement.list.now) t.statics.now t.mixeds.now t.dynamics.now k

abbrev pub line_count_in : Tables → ℕ
line_count_in t = lines_in (terms_in t.agreement.contract) (returns_of t.agreement.list.now)
