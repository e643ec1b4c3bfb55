use Rattle.std.proofs.Common.{◌≡◌, ◌++◌, drop, map}
use Rattle.tl_write.specs.declared.write.Write.{Write}
use Rattle.tl_write.proofs.buffer.Buffer.keys.Given as goal

abbrev pub invariant-loop-write : goal.invariant-loop-write
invariant-loop-write l = l.keys ++ map (λ (w : Write). w.key) (drop l.write-index l.write-items) ≡ map (λ (w : Write). w.key) l.self
