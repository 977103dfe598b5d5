-- One access behind another. Assumes nothing.
use Rattle.check_vectors.specs.declared.access.Access.{Access}
use Rattle.check_vectors.specs.declared.access.Access.TheVariants.{Nothing, Read, Written, More}

abbrev pub behind : Access → Access → Access
behind Nothing next = next
behind (Read port) next = More
behind (Written port byte) next = More
behind More next = More
