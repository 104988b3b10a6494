-- an operand in a data packet
use Rattle.std.specs.Prelude.{◌≤◌}
use Rattle.chi_stimulus.specs.declared.request.Operand.{Operand}

-- it begins in one of sixteen lanes, and has one to eight
pub record IsOperand (o : Operand) : Type 0 where
  pub lane : o.lane ≤ 15
  pub some : 1 ≤ o.len
  pub most : o.len ≤ 8
