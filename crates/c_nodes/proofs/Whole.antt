-- SPDX-License-Identifier: Apache-2.0
-- SPDX-FileCopyrightText: Copyright the Vortex contributors

-- What a call that reads nodes and texts returns.
use Rattle.std.proofs.Common.{◌≡◌, ◌<◌, ℕ, List, Result, Ok, Err, IfOk, IfErr, MatchResult, refl, sym, ◌∙◌}
use Rattle.dtype_messages.specs.Message.{Message}
use Rattle.dtype_messages.specs.MessageOf.{message}
use Rattle.dtype_messages.specs.declared.pb.DType.{DType}
use Rattle.c_nodes.specs.Depth.{holders}
use Rattle.c_nodes.specs.Read.{ReadsAll, Stops, read_flat}
use Rattle.c_nodes.specs.Texts.{IsFlat}
use Rattle.c_nodes.specs.declared.fault.NodeFault.{NodeFault}
use Rattle.c_nodes.specs.declared.fault.NodeFault.TheVariants.{OutOfMemory, NotUtf8, TooDeep, OutOfRange}
use Rattle.c_nodes.specs.declared.node.Node.{Node}
use Rattle.c_nodes.proofs.Complete.{flat_read}
use Rattle.c_nodes.proofs.Deep.{too_deep_has_many}
use Rattle.c_nodes.proofs.Sound.{ok_is, read_is_flat}

abbrev failed : (A : Type 0) → NodeFault → Result A NodeFault
failed A e = Err e

no_fault : {A B : Type 0} (e : NodeFault) (y : B) → failed B e ≡ Ok y → A
no_fault e y h = absurd cc

-- nodes and texts are those of one message
pub one_message : (nodes : List Node) (texts : List ℕ) (m n : Message) → IsFlat nodes texts m → IsFlat nodes texts n → m ≡ n
one_message nodes texts m n f g = ok_is m n (sym (flat_read nodes texts m f) ∙ flat_read nodes texts n g)

module _ (nodes : List Node) (texts : List ℕ) where
  pub flat_of : (r : Result DType NodeFault) → ReadsAll message r (read_flat nodes texts) → IfOk r (λ d. IsFlat nodes texts (message d))
  flat_of (Ok d) e = read_is_flat nodes texts (message d) e
  flat_of (Err v) e = tt

  pub only_of : (r : Result DType NodeFault) → ReadsAll message r (read_flat nodes texts) → (m : Message) → IsFlat nodes texts m → MatchResult r (λ d. message d ≡ m) (λ e. e ≡ OutOfMemory)
  only_of (Ok d) e m h = ok_is (message d) m (sym e ∙ flat_read nodes texts m h)
  only_of (Err OutOfMemory) e m h = refl
  only_of (Err NotUtf8) e m h = no_fault NotUtf8 m (sym e ∙ flat_read nodes texts m h)
  only_of (Err TooDeep) e m h = no_fault TooDeep m (sym e ∙ flat_read nodes texts m h)
  only_of (Err OutOfRange) e m h = no_fault OutOfRange m (sym e ∙ flat_read nodes texts m h)

  fault : (v : NodeFault) → Stops v (read_flat nodes texts) → v ≡ TooDeep → 128 < holders nodes
  fault OutOfMemory e is = absurd cc
  fault NotUtf8 e is = absurd cc
  fault TooDeep e is = too_deep_has_many nodes texts e
  fault OutOfRange e is = absurd cc

  pub deep_of : (r : Result DType NodeFault) → ReadsAll message r (read_flat nodes texts) → IfErr r (λ e. e ≡ TooDeep → 128 < holders nodes)
  deep_of (Ok d) e = tt
  deep_of (Err v) e = fault v e
