-- A solid record as the solid of document 02's definitions.
use Rattle.drawing.specs.Object.{Object, solid}
use Rattle.solid.specs.declared.Solid.{Solid}

abbrev pub solid_of : Solid → Object
solid_of s = solid s.n s.m s.l s.points s.mark s.choice
