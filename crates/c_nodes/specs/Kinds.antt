-- SPDX-License-Identifier: Apache-2.0
-- SPDX-FileCopyrightText: Copyright the Vortex contributors

-- What a node is, by the number of its kind, and the node of each kind.
use Rattle.std.specs.Prelude.{Bool, ◌==◌, ◌&&◌, if◌then◌else◌, Option, Some, None}
use Rattle.std.specs.Ordering.{int_eq}
use Rattle.c_nodes.specs.declared.kind.NodeKind.{NodeKind}
use Rattle.c_nodes.specs.declared.kind.NodeKind.TheVariants as k
use Rattle.c_nodes.specs.declared.node.Node.{Node}
use Rattle.c_nodes.specs.Flat.{plain, flagged, primitive_node, decimal_node, part_node, map_node, fields_node, extension_node, sized_node, tag_node}

-- the node of a kind, for example the node with kind 2 and the flag `nullable` for a nullable message of booleans
abbrev pub node_of : NodeKind → Node
node_of k.Missing = plain 0
node_of k.Null = plain 1
node_of (k.Bool f) = flagged 2 f
node_of (k.Primitive p f) = primitive_node p f
node_of (k.Decimal p s f) = decimal_node p s f
node_of (k.Utf8 f) = flagged 5 f
node_of (k.Binary f) = flagged 6 f
node_of (k.List e f) = part_node 7 e 0 f
node_of (k.FixedSizeList e n f) = part_node 8 e n f
node_of (k.Map a b o f) = map_node a b o f
node_of (k.Struct ns ts f) = fields_node 10 ns 0 ts f
node_of (k.Union ns gs ts f) = fields_node 11 ns gs ts f
node_of (k.Variant f) = flagged 12 f
node_of (k.Extension s b) = extension_node s b
node_of (k.Text n) = sized_node n
node_of (k.Tag t) = tag_node t

-- the kind with the number of the node, if there is one, and what the node has of it
unfoldable pub kind_by_number : Node → Option NodeKind
kind_by_number n =
    let f = n.nullable == 1 in
    let first = n.has_first == 1 in
    let second = n.has_second == 1 in
    if n.kind == 0 then Some k.Missing else (if n.kind == 1 then Some k.Null else (if n.kind == 2 then Some (k.Bool f) else
    (if n.kind == 3 then Some (k.Primitive n.value f) else (if n.kind == 4 then Some (k.Decimal n.number n.value f) else
    (if n.kind == 5 then Some (k.Utf8 f) else (if n.kind == 6 then Some (k.Binary f) else
    (if n.kind == 7 then Some (k.List first f) else (if n.kind == 8 then Some (k.FixedSizeList first n.number f) else
    (if n.kind == 9 then Some (k.Map first second (n.keys_sorted == 1) f) else
    (if n.kind == 10 then Some (k.Struct n.names n.types f) else (if n.kind == 11 then Some (k.Union n.names n.tags n.types f) else
    (if n.kind == 12 then Some (k.Variant f) else (if n.kind == 13 then Some (k.Extension first second) else
    (if n.kind == 14 then Some (k.Text n.number) else (if n.kind == 15 then Some (k.Tag n.value) else None)))))))))))))))

-- whether two nodes are the same
abbrev pub same_node : Node → Node → Bool
same_node m n =
    (m.kind == n.kind) && ((m.nullable == n.nullable) && ((m.keys_sorted == n.keys_sorted) && ((m.has_first == n.has_first) &&
    ((m.has_second == n.has_second) && ((m.names == n.names) && ((m.tags == n.tags) && ((m.types == n.types) &&
    ((m.number == n.number) && int_eq m.value n.value))))))))

-- this kind, if the node has nothing else in it
abbrev pub if_whole : Node → Option NodeKind → Option NodeKind
if_whole n None = None
if_whole n (Some k) = if same_node n (node_of k) then Some k else None

-- the kind of a node. A node has none if its number is above 15, if a flag is above 1, or if a field that the kind doesn't use
-- isn't 0.
unfoldable pub kind_of : Node → Option NodeKind
kind_of n = if_whole n (kind_by_number n)
