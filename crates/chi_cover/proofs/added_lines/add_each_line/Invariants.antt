-- the text so far, and the lines of what is left
use Rattle.std.proofs.Common.{◌≡◌, ◌++◌, drop, map}
use Rattle.chi_cover.specs.AddedLines.{each_added}
use Rattle.chi_cover.proofs.added_lines.add_each_line.Given as goal

abbrev pub invariant-loop-path : goal.invariant-loop-path
invariant-loop-path l =
    l.to.items ++ each_added l.rest (map (λ path. path.now) (drop l.path-index l.paths)) ≡ l.initial.to.items ++ each_added l.added (map (λ path. path.now) l.paths)
