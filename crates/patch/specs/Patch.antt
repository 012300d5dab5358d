-- A patch record as the patch of document 01's definitions.
use Rattle.drawing.specs.Object.{Object, patch}
use Rattle.patch.specs.declared.Patch.{Patch}

abbrev pub patch_of : Patch → Object
patch_of p = patch p.n p.m p.points p.mark p.choice
