-- SPDX-License-Identifier: Apache-2.0
-- SPDX-FileCopyrightText: Copyright the Vortex contributors

-- What the reader hasn't read, as two lists, and kinds of messages as messages.
use Rattle.c_nodes.specs.Read.{Left}
use Rattle.c_nodes.specs.declared.reader.Rest.{Rest}

-- the nodes and the bytes
abbrev pub left : Rest → Left
left r = (r.nodes.now, r.texts.now)
